-- What the calls of a script answer, and how it is printed. Assumes nothing.
use Rattle.std.specs.Prelude.{ℕ, Bool, true, false, cond, ◌||◌, List, ◌++◌, Some, None, Ok, Err, codes, decimal, Option, Result}
use Rattle.faults.specs.declared.cause.Cause.TheVariants.{TakeRefused, GiveRefused, DrawRefused, PutRefused}
use Rattle.faults.specs.Faults.{whole_fault, shown_fault}
use Rattle.heaps.specs.Rule.{Block}
use Rattle.benches.specs.declared.reply.Reply.{Reply}
use Rattle.benches.specs.declared.reply.Reply.TheVariants.{Done, Granted, Held, Drawn}
use Rattle.benches.specs.declared.reply.Refusal.{Refusal}
use Rattle.benches.specs.declared.reply.Refusal.TheVariants.{Fault, NoHeap, NoRack, Neither}

-- how a reply is printed
abbrev pub shown_reply : Reply → List ℕ
shown_reply Done = codes "ok"
shown_reply (Granted start held) = codes "start " ++ (decimal start ++ (codes ", held " ++ decimal held))
shown_reply (Held (Some bytes)) = decimal bytes
shown_reply (Held None) = codes "nothing"
shown_reply (Drawn place) = decimal place

-- how a refusal is
abbrev pub shown_refusal : Refusal → List ℕ
shown_refusal (Fault f) = shown_fault f
shown_refusal NoHeap = codes "no heap"
shown_refusal NoRack = codes "no rack"
shown_refusal Neither = codes "no heap and no rack"

abbrev Answer : Type 0
Answer = Result Reply Refusal

-- the answers, from those of the rules
abbrev pub take_answer : Option Block → Answer
take_answer (Some b) = Ok (Granted b.start b.held)
take_answer None = Err (Fault (whole_fault TakeRefused))

abbrev pub give_answer : Bool → Answer
give_answer true = Ok Done
give_answer false = Err (Fault (whole_fault GiveRefused))

abbrev pub holds_answer : Option ℕ → Answer
holds_answer bytes = Ok (Held bytes)

abbrev pub draw_answer : Option ℕ → Answer
draw_answer (Some place) = Ok (Drawn place)
draw_answer None = Err (Fault (whole_fault DrawRefused))

abbrev pub put_answer : Bool → Answer
put_answer true = Ok Done
put_answer false = Err (Fault (whole_fault PutRefused))

-- a clear is done where there is a heap or a rack
abbrev pub clear_answer : Bool → Bool → Answer
clear_answer heap rack = cond (heap || rack) (Ok Done) (Err Neither)
