use Rattle.std.proofs.Common.{◌≡◌, ◌≢◌, drop, rules, tests}
use Rattle.std.proofs.lemmas.Iterator.{IsFirst-from_position, YieldsList-from_slice}
use Rattle.text.proofs.Firsts.{line_end}
use Rattle.text.proofs.rest.Rest.line_length.Goals as goal

pub returns : goal.returns
returns c =
    line_end c.args.self.text.now c.args.self.at c.args.self.inside _
    (IsFirst-from_position _ _ _ (λ b. b ≡ 10) (λ b. b ≢ 10) c.position.ensures.ran (YieldsList-from_slice (drop c.args.self.at c.args.self.text.now) (cc)) (λ x q k. search (rules, tests)) (λ x q k. search (rules, tests)))
