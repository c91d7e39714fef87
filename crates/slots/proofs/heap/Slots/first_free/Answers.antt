use Rattle.std.proofs.Common.{◌+◌, ◌%◌, rules, tests, arith, refl, sym, ◌∙◌}
use Rattle.std.proofs.lemmas.Iterator.{YieldsList-from_map, YieldsList-from_range}
use Rattle.std.proofs.lemmas.Iterator.Adapters.{option_map_id}
use Rattle.std.proofs.lemmas.Iterator.Search.{find_from_yields_List}
use Rattle.slots.proofs.Rounds.{is_free, found_in_turn}
use Rattle.slots.proofs.heap.Slots.first_free.Goals as goal

pub returns-clause-first : goal.returns-clause-first
returns-clause-first c =
    let i = c.args.self.now.next in
    let t = c.args.self.now.taken in
    let found =
    find_from_yields_List (is_free t) _ _ c.find.result c.find.ensures.ran
    (YieldsList-from_map _ (λ d. (i + d) % 16) (YieldsList-from_range 0 16 16 c.map.ensures.source refl) c.map.ensures.closure (λ x r q k. search (rules, tests)))
    (λ x b q k. search (rules, tests)) in
    sym (option_map_id c.find.result) ∙ found ∙ sym (found_in_turn t i (omega arith))
