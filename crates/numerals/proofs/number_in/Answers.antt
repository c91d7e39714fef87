use Rattle.std.proofs.Common.{◌≡◌, rules}
use Rattle.std.proofs.lemmas.List.{take_rest}
use Rattle.numerals.specs.Numerals.{number_in}
use Rattle.numerals.proofs.Plain.{writes}
use Rattle.numerals.proofs.number_in.Goals as goal

pub returns-in-45-clause-law : goal.returns-in-45-clause-law
returns-in-45-clause-law c = let told = rw take_rest at c.negative_of.ensures in
    let value : c.negative_of.result ≡ number_in c.args.bytes.now = search rules in writes _ _ value

pub returns-in_default-clause-law : goal.returns-in_default-clause-law
returns-in_default-clause-law c = let value : c.positive_of.result ≡ number_in c.args.bytes.now = search rules in writes _ _ value
