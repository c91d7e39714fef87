-- What the calls of a script do to a heap and a rack that may be there, by their rules. Assumes nothing.
use Rattle.std.specs.Prelude.{◌≡◌, ℕ, false, cond, is_some, Some, None, Err, Option, Result, nat_lt}
use Rattle.std.specs.Option.{option_map}
use Rattle.heaps.specs.Rule.{HeapRule}
use Rattle.racks.specs.Rule.{RackRule}
use Rattle.scripts.specs.declared.command.Command.{Command}
use Rattle.scripts.specs.declared.command.Command.TheVariants.{Heap, Rack, Take, Give, Holds, Draw, Put, Clear, Sheet}
use Rattle.benches.specs.declared.bench.Bench.{Bench}
use Rattle.benches.specs.declared.reply.Reply.{Reply}
use Rattle.benches.specs.declared.reply.Refusal.{Refusal}
use Rattle.benches.specs.declared.reply.Refusal.TheVariants.{NoHeap, NoRack}
use Rattle.benches.specs.Replies.{take_answer, give_answer, holds_answer, draw_answer, put_answer, clear_answer}

abbrev Answer : Type 0
Answer = Result Reply Refusal

-- the heap, if there is one: the answer to each call, and the state after it
module _ (R : HeapRule) where
  abbrev pub takes : ℕ → Option R.State → Answer
  takes n (Some s) = take_answer (R.take s n).answer
  takes n None = Err NoHeap

  abbrev pub after_take : ℕ → Option R.State → Option R.State
  after_take n (Some s) = Some (R.take s n).after
  after_take n None = None

  abbrev pub gives : ℕ → Option R.State → Answer
  gives start (Some s) = give_answer (R.give s start).answer
  gives start None = Err NoHeap

  abbrev pub after_give : ℕ → Option R.State → Option R.State
  after_give start (Some s) = Some (R.give s start).after
  after_give start None = None

  abbrev pub holds : ℕ → Option R.State → Answer
  holds start (Some s) = holds_answer (R.held s start)
  holds start None = Err NoHeap

  abbrev pub heap_cleared : Option R.State → Option R.State
  heap_cleared h = option_map R.clear h

-- the rack, if there is one; a number above 255 is no place, so it is not out and the rack is not asked
module _ (R : RackRule) where
  abbrev pub draws : Option R.State → Answer
  draws (Some s) = draw_answer (R.draw s).answer
  draws None = Err NoRack

  abbrev pub after_draw : Option R.State → Option R.State
  after_draw (Some s) = Some (R.draw s).after
  after_draw None = None

  abbrev pub puts : ℕ → Option R.State → Answer
  puts place (Some s) = cond (nat_lt place 256) (put_answer (R.put s place).answer) (put_answer false)
  puts place None = Err NoRack

  abbrev pub after_put : ℕ → Option R.State → Option R.State
  after_put place (Some s) = cond (nat_lt place 256) (Some (R.put s place).after) (Some s)
  after_put place None = None

  abbrev pub rack_cleared : Option R.State → Option R.State
  rack_cleared r = option_map R.clear r

abbrev pub clears : {A B : Type 0} → Option A → Option B → Answer
clears h r = clear_answer (is_some h) (is_some r)

-- a command by its call; a new heap or rack and a sheet are none
module _ (R : HeapRule) (Q : RackRule) where
  abbrev pub answers : Command → Option R.State → Option Q.State → Option Answer
  answers (Heap name) h r = None
  answers (Rack name) h r = None
  answers (Take n) h r = Some (takes R n h)
  answers (Give start) h r = Some (gives R start h)
  answers (Holds start) h r = Some (holds R start h)
  answers Draw h r = Some (draws Q r)
  answers (Put place) h r = Some (puts Q place r)
  answers Clear h r = Some (clears h r)
  answers Sheet h r = None

module _ (R : HeapRule) where
  abbrev pub heap_after : Command → Option R.State → Option R.State
  heap_after (Heap name) h = h
  heap_after (Rack name) h = h
  heap_after (Take n) h = after_take R n h
  heap_after (Give start) h = after_give R start h
  heap_after (Holds start) h = h
  heap_after Draw h = h
  heap_after (Put place) h = h
  heap_after Clear h = heap_cleared R h
  heap_after Sheet h = h

module _ (Q : RackRule) where
  abbrev pub rack_after : Command → Option Q.State → Option Q.State
  rack_after (Heap name) r = r
  rack_after (Rack name) r = r
  rack_after (Take n) r = r
  rack_after (Give start) r = r
  rack_after (Holds start) r = r
  rack_after Draw r = after_draw Q r
  rack_after (Put place) r = after_put Q place r
  rack_after Clear r = rack_cleared Q r
  rack_after Sheet r = r

-- a call on the heap alone: its answer and the state after it, of the state before; the rack stays
pub record OnHeap {H R S : Type 0} (state : H → S) (answer : Option S → Answer) (after : Option S → Option S) (old new : Bench H R) (result : Answer) : Type 0 where
  pub answers : result ≡ answer (option_map state old.heap)
  pub heap : option_map state new.heap ≡ after (option_map state old.heap)
  pub rack : new.rack ≡ old.rack

-- the same on the rack; the heap stays
pub record OnRack {H R S : Type 0} (state : R → S) (answer : Option S → Answer) (after : Option S → Option S) (old new : Bench H R) (result : Answer) : Type 0 where
  pub answers : result ≡ answer (option_map state old.rack)
  pub rack : option_map state new.rack ≡ after (option_map state old.rack)
  pub heap : new.heap ≡ old.heap

-- a call on both
pub record OnBoth {H R S T A : Type 0} (state : H → S) (places : R → T) (answer : Option S → Option T → A) (after : Option S → Option S) (back : Option T → Option T) (old new : Bench H R) (result : A) : Type 0 where
  pub answers : result ≡ answer (option_map state old.heap) (option_map places old.rack)
  pub heap : option_map state new.heap ≡ after (option_map state old.heap)
  pub rack : option_map places new.rack ≡ back (option_map places old.rack)
