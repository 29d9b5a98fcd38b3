-- The bytes of a piece of a line.
use Rattle.std.specs.Prelude.{ℕ, List, flat_map, decimal}
use Rattle.ak_text.specs.Decimal.{decimal_of}
use Rattle.ak_print.specs.declared.piece.Piece.{Piece}
use Rattle.ak_print.specs.declared.piece.Piece.TheVariants.{Text, Num, Count}

-- a text as it is, a number in decimal
abbrev pub piece_bytes : Piece → List ℕ
piece_bytes (Text text) = text.now
piece_bytes (Num n) = decimal_of n
piece_bytes (Count n) = decimal n

-- one piece after another
abbrev pub pieces_bytes : List Piece → List ℕ
pieces_bytes pieces = flat_map piece_bytes pieces
