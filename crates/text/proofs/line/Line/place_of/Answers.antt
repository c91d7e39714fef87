use Rattle.std.proofs.Common.{[], get_or, refl, ◌∙◌, rules, tests}
use Rattle.std.specs.Str.{bytes_eq}
use Rattle.std.proofs.lemmas.Iterator.{YieldsList-from_range}
use Rattle.std.proofs.lemmas.Iterator.Search.{find_from_yields_List}
use Rattle.form.specs.Pieces.{pieces}
use Rattle.text.specs.Lines.{line_of}
use Rattle.text.proofs.Places.{places_of_five, as_found}
use Rattle.text.proofs.line.Line.place_of.Goals as goal

pub returns-clause-value : goal.returns-clause-value
returns-clause-value c =
    let vs = pieces 44 (line_of c.args.self.now.text.now c.args.self.now.starts) in
    as_found c.find.result _ (find_from_yields_List (λ k. bytes_eq c.args.name.now (get_or vs k [])) _ _ c.find.result c.find.ensures.ran (YieldsList-from_range 0 5 5 refl refl) (λ x b q k. search (rules, tests)))
    ∙ places_of_five c.args.name.now vs c.args.self.now.five.count
