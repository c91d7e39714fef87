-- The dearest row, with 255 blocks living: each of its equations is computed by itself.
use Rattle.std.proofs.Common.{◌≡◌, map, refl}
use Rattle.racks.specs.Row.{last_places}
use Rattle.best_fit.specs.Rule.{best_of}
use Rattle.quarantine.specs.Rule.{retried}
use Rattle.model.specs.Grants.{count}
use Rattle.trials.specs.Rows.{machine_says, book_says, machine_registers, book_registers, traced, Holds}
use Rattle.trials.specs.Granting.{every_place}

machine_answers_lem : machine_says every_place ≡ map (λ q. q.answer) every_place.exchanges
unfolding best_of retried last_places
machine_answers_lem = refl

book_answers_lem : book_says every_place ≡ map (λ q. q.answer) every_place.exchanges
unfolding best_of retried count
book_answers_lem = refl

machine_registers_lem : machine_registers every_place ≡ every_place.registers
unfolding best_of retried last_places
machine_registers_lem = refl

book_registers_lem : book_registers every_place ≡ map traced every_place.registers
unfolding best_of retried count
book_registers_lem = refl

pub every_place_holds : Holds every_place
every_place_holds = record { machine_answers = machine_answers_lem; book_answers = book_answers_lem; sidecars = machine_registers_lem; descents = book_registers_lem }
