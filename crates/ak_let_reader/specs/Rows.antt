-- Sources worked by hand: their texts, and their functions by name. Own.
use Rattle.std.specs.Prelude.{ℕ, pos, List, [], ◌∷◌, ◌++◌, None, codes}
use Rattle.std.specs.List.{flat_map}
use Rattle.ak_script.specs.declared.statement.Atom.TheVariants.{Literal, Local}
use Rattle.ak_script.specs.declared.statement.Operator.TheVariants.{Div}
use Rattle.ak_script.specs.declared.statement.WorkWord.TheVariants.{Square}
use Rattle.ak_let_syntax.specs.declared.named.NamedStmt.TheVariants.{Compute, Print, Return, Await, AwaitWork, Try}
use Rattle.ak_let_syntax.specs.declared.named.NamedFun.{NamedFun}

-- the text of some lines
abbrev pub text_of : List (List ℕ) → List ℕ
text_of lines = flat_map (λ line. line ++ 10 ∷ []) lines

-- ---- a work in an await, and an error in a try
abbrev pub worked_text : List ℕ
worked_text =
    text_of
    (codes "fun main" ∷ codes "await x = sq 3" ∷ codes "print x" ∷ codes "try y = bad 1 else fix"
    ∷ codes "print y" ∷ codes "end"
    ∷ codes "fun sq n" ∷ codes "await r = work square n" ∷ codes "return r" ∷ codes "end"
    ∷ codes "fun bad n" ∷ codes "let z = n / 0" ∷ codes "return z" ∷ codes "end"
    ∷ codes "fun fix e" ∷ codes "return e" ∷ codes "end" ∷ [])

abbrev pub worked_main : NamedFun
worked_main =
    record {
      name = codes "main";
      number = 1;
      params = [];
      lines =
          record { number = 2; stmt = Await (codes "x") (codes "sq") (Literal (pos 3) ∷ []) }
          ∷ record { number = 3; stmt = Print None (Local (codes "x")) }
          ∷ record { number = 4; stmt = Try (codes "y") (codes "bad") (Literal (pos 1) ∷ []) (codes "fix") }
          ∷ record { number = 5; stmt = Print None (Local (codes "y")) }
          ∷ [];
    }

abbrev pub worked_sq : NamedFun
worked_sq =
    record {
      name = codes "sq";
      number = 7;
      params = codes "n" ∷ [];
      lines =
          record { number = 8; stmt = AwaitWork (codes "r") Square (Local (codes "n")) }
          ∷ record { number = 9; stmt = Return None (Local (codes "r")) }
          ∷ [];
    }

abbrev pub worked_bad : NamedFun
worked_bad =
    record {
      name = codes "bad";
      number = 11;
      params = codes "n" ∷ [];
      lines =
          record { number = 12; stmt = Compute (codes "z") (Local (codes "n")) Div (Literal (pos 0)) }
          ∷ record { number = 13; stmt = Return None (Local (codes "z")) }
          ∷ [];
    }

abbrev pub worked_fix : NamedFun
worked_fix =
    record {
      name = codes "fix";
      number = 15;
      params = codes "e" ∷ [];
      lines = record { number = 16; stmt = Return None (Local (codes "e")) } ∷ [];
    }

abbrev pub worked_funs : List NamedFun
worked_funs = worked_main ∷ worked_sq ∷ worked_bad ∷ worked_fix ∷ []

-- ---- refused
abbrev pub unknown_text : List ℕ
unknown_text = text_of (codes "fun main" ∷ codes "await x = sq 3" ∷ codes "end" ∷ [])

abbrev pub unknown_funs : List NamedFun
unknown_funs =
    record {
      name = codes "main";
      number = 1;
      params = [];
      lines = record { number = 2; stmt = Await (codes "x") (codes "sq") (Literal (pos 3) ∷ []) } ∷ [];
    }
    ∷ []

abbrev pub mainless_text : List ℕ
mainless_text = text_of (codes "fun f" ∷ codes "end" ∷ [])

abbrev pub mainless_funs : List NamedFun
mainless_funs = record { name = codes "f"; number = 1; params = []; lines = [] } ∷ []

abbrev pub open_text : List ℕ
open_text = text_of (codes "fun main" ∷ codes "print 1" ∷ [])

abbrev pub open_fun : NamedFun
open_fun = record {
  name = codes "main";
  number = 1;
  params = [];
  lines = record { number = 2; stmt = Print None (Literal (pos 1)) } ∷ [];
}

-- a number that has no 64 bits
abbrev pub wide_text : List ℕ
wide_text = text_of (codes "fun main" ∷ codes "print 9223372036854775808" ∷ codes "end" ∷ [])

-- an eighth local, beside a number that has no 64 bits
abbrev pub many_text : List ℕ
many_text = text_of (codes "fun f a b c d e g h" ∷ codes "let i = 9223372036854775808" ∷ codes "end" ∷ [])

-- ---- faults of names, each the least of its line
-- a local that is bound a second time, by a local that isn't known
abbrev pub twice_funs : List NamedFun
twice_funs =
    record {
      name = codes "main";
      number = 1;
      params = [];
      lines =
          record { number = 2; stmt = Await (codes "x") (codes "main") [] }
          ∷ record { number = 4; stmt = Compute (codes "x") (Local (codes "y")) Div (Literal (pos 0)) }
          ∷ [];
    }
    ∷ []

-- a function with a parameter takes nothing
abbrev pub count_funs : List NamedFun
count_funs =
    record {
      name = codes "main";
      number = 1;
      params = [];
      lines = record { number = 2; stmt = Await (codes "x") (codes "f") [] } ∷ [];
    }
    ∷ record { name = codes "f"; number = 5; params = codes "n" ∷ []; lines = [] }
    ∷ []
