-- Each cause of a refusal by its number, its part, and whether it names a line. Assumes nothing.
use Rattle.std.specs.Prelude.{ℕ, Bool, true, false}
use Rattle.faults.specs.declared.cause.Cause.{Cause}
use Rattle.faults.specs.declared.cause.Cause.TheVariants.{TextSize, LineEnd, ColumnNames, ValueCount, UnknownWord, BadNumber, WrongBlank, NoRoom, NoOperation, BadTarget, BadRecord, NoSidecar, Ended, OutOfBounds, Uneven, NotFromHeap, NoKey, FrameLimit, NoFrame, ZeroDivisor, OffProgram, NotGoing, NotForPress, BadPress, NoRegister, BadEntry, TakeRefused, GiveRefused, DrawRefused, PutRefused}
use Rattle.faults.specs.declared.part.Part.{Part}
use Rattle.faults.specs.declared.part.Part.TheVariants.{Text, Heap, Rack, Machine}

-- the number under which a refusal is known; the numbers between are free for later ones
abbrev pub number_of : Cause → ℕ
number_of TextSize = 1
number_of LineEnd = 2
number_of ColumnNames = 3
number_of ValueCount = 4
number_of UnknownWord = 5
number_of BadNumber = 6
number_of WrongBlank = 7
number_of NoRoom = 8
number_of NoOperation = 9
number_of BadTarget = 10
number_of BadRecord = 11
number_of NoSidecar = 20
number_of Ended = 21
number_of OutOfBounds = 22
number_of Uneven = 23
number_of NotFromHeap = 24
number_of NoKey = 25
number_of FrameLimit = 26
number_of NoFrame = 27
number_of ZeroDivisor = 28
number_of OffProgram = 29
number_of NotGoing = 30
number_of NotForPress = 31
number_of BadPress = 32
number_of NoRegister = 33
number_of BadEntry = 34
number_of TakeRefused = 40
number_of GiveRefused = 41
number_of DrawRefused = 42
number_of PutRefused = 43

-- the part that refuses
abbrev pub part_of : Cause → Part
part_of TextSize = Text
part_of LineEnd = Text
part_of ColumnNames = Text
part_of ValueCount = Text
part_of UnknownWord = Text
part_of BadNumber = Text
part_of WrongBlank = Text
part_of NoRoom = Text
part_of NoOperation = Text
part_of BadTarget = Text
part_of BadRecord = Text
part_of NoSidecar = Machine
part_of Ended = Machine
part_of OutOfBounds = Machine
part_of Uneven = Machine
part_of NotFromHeap = Machine
part_of NoKey = Machine
part_of FrameLimit = Machine
part_of NoFrame = Machine
part_of ZeroDivisor = Machine
part_of OffProgram = Machine
part_of NotGoing = Machine
part_of NotForPress = Machine
part_of BadPress = Machine
part_of NoRegister = Machine
part_of BadEntry = Machine
part_of TakeRefused = Heap
part_of GiveRefused = Heap
part_of DrawRefused = Rack
part_of PutRefused = Rack

-- whether the refusal names a line: else it is of a whole text or call, and its line is 0
abbrev pub has_line : Cause → Bool
has_line TextSize = false
has_line LineEnd = true
has_line ColumnNames = true
has_line ValueCount = true
has_line UnknownWord = true
has_line BadNumber = true
has_line WrongBlank = true
has_line NoRoom = true
has_line NoOperation = false
has_line BadTarget = true
has_line BadRecord = true
has_line NoSidecar = true
has_line Ended = true
has_line OutOfBounds = true
has_line Uneven = true
has_line NotFromHeap = true
has_line NoKey = true
has_line FrameLimit = true
has_line NoFrame = true
has_line ZeroDivisor = true
has_line OffProgram = false
has_line NotGoing = false
has_line NotForPress = true
has_line BadPress = true
has_line NoRegister = false
has_line BadEntry = false
has_line TakeRefused = false
has_line GiveRefused = false
has_line DrawRefused = false
has_line PutRefused = false
