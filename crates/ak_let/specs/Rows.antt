-- Random sources, with the replies of a pool. What they print was found by another implementation.
use Rattle.std.specs.Prelude.{pos, negsuc, List, [], ◌∷◌, Some, None}
use Rattle.ak_labor.specs.declared.work.WorkKind.TheVariants.{Square, Mix}
use Rattle.ak_labor.specs.declared.work.Outcome.TheVariants.{Good, Bad}
use Rattle.ak_labor.specs.Calls.{Reply, Done}
use Rattle.ak_let.specs.Correct.{brings}
use Rattle.ak_script.specs.declared.statement.Operator.TheVariants.{Add, Sub, Rem, LessEq, Equal, NotEqual}
use Rattle.ak_labor.specs.declared.config.Config.{Config}
use Rattle.ak_let.specs.declared.source.Atom.TheVariants.{Given, Known}
use Rattle.ak_let.specs.declared.source.Line.TheVariants.{Let, Compute, Print, Raise, Return, Await, AwaitWork, Try}
use Rattle.ak_let.specs.declared.source.Source.{Source}

-- a few jobs in each cycle
abbrev pub slow : Config
slow = record { threads = 2; limit = 3; jobs = 100; askers = 0 }

abbrev pub source_0 : Source
source_0 =
    record {
      funs = record {
        params = 1;
        lines = Print (Some (Known 0)) (Known 0) ∷ Raise (Some (Given (negsuc 5))) (Known 0) ∷ [];
      }
          ∷ record {
            params = 4;
            lines = Print (Some (Given (negsuc 3))) (Known 0) ∷ Print (Some (Known 1)) (Given (pos 2))
                ∷ Print (Some (Known 3)) (Known 2) ∷ AwaitWork Square (Known 1) ∷ Print None (Given (negsuc 6))
                ∷ Compute (Known 1) Sub (Given (negsuc 9223372036854775807)) ∷ Return (Some (Known 3)) (Known 4)
                ∷ Raise (Some (Known 1)) (Given (negsuc 3)) ∷ Print (Some (Given (negsuc 0))) (Given (pos 3037000500))
                ∷ Compute (Known 4) Sub (Given (pos 9223372036854775807)) ∷ Print None (Known 0)
                ∷ Raise (Some (Known 0)) (Known 3) ∷ [];
          }
          ∷ record {
            params = 0;
            lines = Try 1
                ((Given (pos 3037000500)) ∷ (Given (negsuc 9223372036854775807)) ∷ (Given (pos 2)) ∷ (Given (pos 9))
                ∷ [])
                0
                ∷ Print None (Known 0) ∷ Return (Some (Known 0)) (Given (pos 2)) ∷ Print (Some (Known 0)) (Known 0)
                ∷ Print (Some (Known 0)) (Known 0) ∷ Await 0 ((Known 0) ∷ []) ∷ Try 0 ((Given (pos 8)) ∷ []) 0
                ∷ Raise None (Given (pos 3037000500)) ∷ Try 0 ((Known 2) ∷ []) 0 ∷ [];
          }
          ∷ [];
      main = 2;
    }

abbrev pub replies_0 : List Reply
replies_0 =
    brings ([]) ∷ brings ([]) ∷ brings ([]) ∷ Done ∷ brings ([]) ∷ brings ((0, Bad (negsuc 7)) ∷ []) ∷ Done
    ∷ []

abbrev pub source_1 : Source
source_1 =
    record {
      funs = record { params = 3; lines = [] }
          ∷ record {
            params = 6;
            lines = AwaitWork Square (Given (negsuc 9223372036854775807)) ∷ Print None (Known 4)
                ∷ Print (Some (Given (negsuc 6))) (Given (pos 100)) ∷ [];
          }
          ∷ record {
            params = 0;
            lines = Compute (Given (negsuc 0)) Sub (Given (negsuc 0))
                ∷ Await 0 ((Given (negsuc 3)) ∷ (Known 0) ∷ (Known 0) ∷ []) ∷ Compute (Known 0) NotEqual (Known 1)
                ∷ Print None (Known 1) ∷ Print None (Given (pos 0)) ∷ Await 0 ((Known 1) ∷ (Known 0) ∷ (Known 2) ∷ [])
                ∷ Raise (Some (Known 0)) (Known 0) ∷ [];
          }
          ∷ [];
      main = 2;
    }

abbrev pub replies_1 : List Reply
replies_1 =
    brings ([]) ∷ brings ([]) ∷ brings ([]) ∷ brings ([]) ∷ brings ([]) ∷ brings ([]) ∷ brings ([])
    ∷ brings ([]) ∷ Done ∷ []

abbrev pub source_2 : Source
source_2 =
    record {
      funs = record {
        params = 4;
        lines = Print None (Given (negsuc 0)) ∷ AwaitWork Square (Known 0) ∷ [];
      }
          ∷ record { params = 3; lines = Let (Given (negsuc 4)) ∷ Print (Some (Known 0)) (Given (pos 3)) ∷ [] }
          ∷ record {
            params = 1;
            lines = Return (Some (Known 0)) (Known 0)
                ∷ Await 0 ((Given (pos 9223372036854775807)) ∷ (Given (pos 0)) ∷ (Given (pos 0)) ∷ (Known 0) ∷ [])
                ∷ AwaitWork Square (Given (negsuc 0)) ∷ Print None (Given (pos 2))
                ∷ Compute (Known 2) NotEqual (Known 2) ∷ [];
          }
          ∷ record {
            params = 3;
            lines = Print None (Known 2) ∷ Print None (Given (pos 2)) ∷ Print None (Known 1)
                ∷ Await 0 ((Given (negsuc 9223372036854775807)) ∷ (Known 0) ∷ (Known 0) ∷ (Given (pos 3)) ∷ [])
                ∷ AwaitWork Mix (Known 3) ∷ Return (Some (Known 2)) (Known 3) ∷ [];
          }
          ∷ record {
            params = 0;
            lines = Try 3 ((Given (pos 9)) ∷ (Given (pos 4)) ∷ (Given (pos 4)) ∷ []) 2
                ∷ Return (Some (Known 0)) (Known 0) ∷ [];
          }
          ∷ [];
      main = 4;
    }

abbrev pub replies_2 : List Reply
replies_2 =
    brings ([]) ∷ brings ([]) ∷ brings ([]) ∷ brings ([]) ∷ brings ([]) ∷ Done ∷ brings ([])
    ∷ brings ((0, Bad (negsuc 7)) ∷ []) ∷ brings ([]) ∷ brings ([]) ∷ Done ∷ []

abbrev pub source_3 : Source
source_3 =
    record {
      funs = record {
        params = 0;
        lines = Print None (Given (pos 7))
            ∷ Await 1
            ((Given (pos 1)) ∷ (Given (pos 3037000500)) ∷ (Given (negsuc 9223372036854775807)) ∷ (Given (pos 7))
            ∷ [])
            ∷ Compute (Given (pos 5)) Equal (Given (negsuc 2)) ∷ Print None (Known 1)
            ∷ Await 1 ((Known 0) ∷ (Known 1) ∷ (Given (pos 7)) ∷ (Known 1) ∷ []) ∷ [];
      }
          ∷ record {
            params = 4;
            lines = Return (Some (Given (pos 2))) (Known 3) ∷ Print (Some (Known 1)) (Given (negsuc 4))
                ∷ Await 0 ([]) ∷ Print None (Known 2) ∷ AwaitWork Square (Given (pos 5))
                ∷ Return (Some (Known 0)) (Given (pos 3037000500)) ∷ Return (Some (Given (pos 1))) (Known 1)
                ∷ Return (Some (Known 1)) (Given (negsuc 0)) ∷ [];
          }
          ∷ [];
      main = 0;
    }

abbrev pub replies_3 : List Reply
replies_3 =
    brings ([]) ∷ brings ([]) ∷ brings ([]) ∷ brings ([]) ∷ brings ([]) ∷ brings ([]) ∷ brings ([])
    ∷ brings ([]) ∷ Done ∷ []

abbrev pub source_4 : Source
source_4 =
    record {
      funs = record {
        params = 2;
        lines = AwaitWork Mix (Known 1) ∷ Print None (Given (negsuc 1))
            ∷ Raise (Some (Given (negsuc 9223372036854775807))) (Known 2)
            ∷ Print (Some (Known 2)) (Given (negsuc 5)) ∷ Print None (Known 2)
            ∷ Raise (Some (Given (pos 100))) (Known 1) ∷ Return (Some (Given (pos 2))) (Known 0) ∷ [];
      }
          ∷ record {
            params = 1;
            lines = Let (Known 0) ∷ Print (Some (Known 0)) (Known 1) ∷ Compute (Given (pos 3)) Equal (Known 1)
                ∷ [];
          }
          ∷ record {
            params = 0;
            lines = Print None (Given (negsuc 8)) ∷ Await 1 ((Given (pos 2)) ∷ [])
                ∷ Try 0 ((Known 0) ∷ (Known 0) ∷ []) 1 ∷ Print None (Given (pos 2))
                ∷ Return (Some (Known 0)) (Known 1) ∷ Return (Some (Given (pos 7))) (Known 0) ∷ [];
          }
          ∷ [];
      main = 2;
    }

abbrev pub replies_4 : List Reply
replies_4 =
    brings ([]) ∷ brings ([]) ∷ brings ([]) ∷ brings ([]) ∷ brings ([]) ∷ brings ([]) ∷ Done ∷ brings ([])
    ∷ brings ((0, Good (pos 0)) ∷ []) ∷ brings ([]) ∷ brings ([]) ∷ brings ([]) ∷ Done ∷ []

abbrev pub source_5 : Source
source_5 =
    record {
      funs = record {
        params = 0;
        lines = Print None (Given (pos 7)) ∷ Compute (Given (pos 3037000500)) LessEq (Given (negsuc 6))
            ∷ Raise (Some (Known 0)) (Known 0) ∷ Print None (Known 0)
            ∷ Print (Some (Given (pos 100))) (Given (negsuc 1)) ∷ Print None (Given (negsuc 8))
            ∷ Print (Some (Given (pos 1))) (Known 0) ∷ [];
      }
          ∷ [];
      main = 0;
    }

abbrev pub replies_5 : List Reply
replies_5 =
    brings ([]) ∷ brings ([]) ∷ brings ([]) ∷ Done ∷ []

abbrev pub source_6 : Source
source_6 =
    record {
      funs = record {
        params = 1;
        lines = Print (Some (Given (pos 5))) (Known 0) ∷ Print None (Given (pos 100))
            ∷ Print None (Given (pos 5)) ∷ AwaitWork Mix (Given (pos 3)) ∷ Print None (Known 0)
            ∷ AwaitWork Square (Known 0) ∷ Print None (Known 2) ∷ [];
      }
          ∷ record {
            params = 0;
            lines = Compute (Given (negsuc 1)) Sub (Given (negsuc 3)) ∷ Await 3 ((Given (pos 5)) ∷ [])
                ∷ Return (Some (Given (negsuc 8))) (Known 0) ∷ Compute (Given (pos 4)) Add (Given (pos 0))
                ∷ Print None (Known 0) ∷ Try 3 ((Known 2) ∷ []) 2 ∷ [];
          }
          ∷ record {
            params = 1;
            lines = Print (Some (Given (negsuc 6))) (Given (pos 2)) ∷ Try 0 ((Known 0) ∷ []) 0
                ∷ Raise (Some (Known 1)) (Known 1) ∷ [];
          }
          ∷ record {
            params = 1;
            lines = Try 0 ((Known 0) ∷ []) 0 ∷ Compute (Known 1) LessEq (Given (pos 9))
                ∷ Await 0 ((Given (pos 3)) ∷ []) ∷ Await 2 ((Given (pos 9223372036854775807)) ∷ []) ∷ [];
          }
          ∷ [];
      main = 1;
    }

abbrev pub replies_6 : List Reply
replies_6 =
    brings ([]) ∷ brings ([]) ∷ brings ([]) ∷ brings ([]) ∷ brings ([]) ∷ Done ∷ brings ([])
    ∷ brings ((0, Good (pos 3154359431)) ∷ []) ∷ Done ∷ brings ([]) ∷ brings ((1, Bad (negsuc 7)) ∷ []) ∷ Done
    ∷ brings ([]) ∷ brings ((2, Good (pos 3154359431)) ∷ []) ∷ Done ∷ brings ([])
    ∷ brings ((3, Bad (negsuc 7)) ∷ []) ∷ Done ∷ []

abbrev pub source_7 : Source
source_7 =
    record {
      funs = record {
        params = 1;
        lines = Print (Some (Known 0)) (Known 0) ∷ Raise (Some (Known 0)) (Given (negsuc 2)) ∷ [];
      }
          ∷ record { params = 3; lines = [] }
          ∷ record {
            params = 0;
            lines = Print None (Given (negsuc 9223372036854775807)) ∷ Print None (Given (pos 4))
                ∷ Try 0 ((Given (pos 1)) ∷ []) 0 ∷ [];
          }
          ∷ record { params = 3; lines = Await 4 ([]) ∷ Return (Some (Given (pos 3))) (Known 0) ∷ [] }
          ∷ record {
            params = 0;
            lines = Compute (Given (pos 3037000500)) Rem (Given (pos 2))
                ∷ AwaitWork Square (Given (negsuc 9223372036854775807)) ∷ [];
          }
          ∷ [];
      main = 2;
    }

abbrev pub replies_7 : List Reply
replies_7 =
    brings ([]) ∷ brings ([]) ∷ brings ([]) ∷ brings ([]) ∷ brings ([]) ∷ Done ∷ []
