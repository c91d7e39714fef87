use Rattle.std.proofs.Common.{◌≡◌, ◌≤◌, [], length, take, drop}
use Rattle.form.specs.Pieces.{pieces}
use Rattle.form.specs.Reading.{onward}
use Rattle.text.proofs.reader.read_lines.Given as goal

-- what is left of the text, after the records written, gives the reading; the other records are as they were
abbrev pub invariant-loop-count : goal.invariant-loop-count
invariant-loop-count l = record {
  few : l.count ≤ 512;
  on :
      onward l.columns.order (length l.initial.list) (take l.count l.list) (pieces 10 (drop l.left.at l.left.text.now))
      ≡ onward l.columns.order (length l.initial.list) [] (pieces 10 (drop l.rest.at l.rest.text.now));
  same : drop l.count l.list ≡ drop l.count l.initial.list;
}
