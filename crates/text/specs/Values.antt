-- A value that borrows a part of the text. Assumes nothing.
use Rattle.text.specs.declared.values.Piece.{Piece}
use Rattle.text.specs.declared.values.Value.{Value}
use Rattle.text.specs.declared.values.Value.TheVariants.{Word, Number, Blank}
use Rattle.form.specs.Values.{Says, word, number, blank}

abbrev pub says_of : Value → Says
says_of (Word p) = word p.bytes.now
says_of (Number p z) = number z
says_of (Blank p) = blank

abbrev pub piece_of : Value → Piece
piece_of (Word p) = p
piece_of (Number p z) = p
piece_of (Blank p) = p
