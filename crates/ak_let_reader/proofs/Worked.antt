-- The texts that were worked by hand, line by line.
use Rattle.std.proofs.Common.{◌≡◌, ℕ, ℤ, pos, List, [], ◌∷◌, Some, None, FitsSigned, w64, refl, subst, sym, inl, inr, arith}
use Rattle.std.proofs.lemmas.Int.{ints}
use Rattle.std.specs.Prelude.{filter, codes}
use Rattle.std.specs.List.{AllZip, AllByRecursion}
use Rattle.ak_text.specs.Lines.{text_lines, counts}
use Rattle.ak_text.specs.Numbers.{Writes}
use Rattle.ak_let.specs.Worked.{worked}
use Rattle.ak_let_syntax.specs.declared.refusal.LetFault.TheVariants.{BadLine, BadNumber, NoMain, TooMany, UnknownName}
use Rattle.ak_let_reader.specs.Answers.{HasFault, IsSource}
use Rattle.ak_let_syntax.specs.Faults.{Front, IsFront}
use Rattle.ak_let_syntax.specs.Grammar.{IsLine, Reads, IsWithin, forms}
use Rattle.ak_syntax.specs.Rules.{is_many, is_wide}
use Rattle.ak_let_reader.specs.Rows.{worked_text, worked_funs, unknown_text, unknown_funs, mainless_text, mainless_funs, many_text, open_text, open_fun, wide_text}
use Rattle.ak_script.specs.declared.statement.Atom.TheVariants.{Literal}
use Rattle.ak_let_syntax.specs.declared.named.NamedFun.{NamedFun}
use Rattle.ak_let_syntax.specs.declared.named.NamedStmt.TheVariants.{Let, Print}
use Rattle.ak_let_syntax.specs.declared.named.Form.{Form}
use Rattle.ak_let_syntax.specs.declared.named.Form.TheVariants.{Body}

-- the numbers that the texts write
written_0 : FitsSigned w64 (pos 0) × Writes (codes "0") (pos 0)
written_0 = (omega (arith, ints), ((omega arith, refl), refl))

written_1 : FitsSigned w64 (pos 1) × Writes (codes "1") (pos 1)
written_1 = (omega (arith, ints), ((omega arith, refl), refl))

written_3 : FitsSigned w64 (pos 3) × Writes (codes "3") (pos 3)
written_3 = (omega (arith, ints), ((omega arith, refl), refl))

worked_lines : AllZip IsLine (forms worked_funs) (filter counts (text_lines worked_text))
worked_lines = (
  record { good = refl; number = refl; words = (refl, ((refl, refl), tt)); names = refl },
  (
    record { good = refl; number = refl; words = (refl, ((refl, refl), (refl, ((refl, refl), (written_3, tt))))); names = refl },
    (
      record { good = refl; number = refl; words = (refl, ((refl, refl), tt)); names = refl },
      (
        record { good = refl; number = refl; words = (refl, ((refl, refl), (refl, ((refl, refl), (written_1, (refl, ((refl, refl), tt))))))); names = refl },
        (
          record { good = refl; number = refl; words = (refl, ((refl, refl), tt)); names = refl },
          (
            record { good = refl; number = tt; words = (refl, tt); names = refl },
            (
              record { good = refl; number = refl; words = (refl, ((refl, refl), ((refl, refl), tt))); names = refl },
              (
                record { good = refl; number = refl; words = (refl, ((refl, refl), (refl, (refl, (refl, ((refl, refl), tt)))))); names = refl },
                (
                  record { good = refl; number = refl; words = (refl, ((refl, refl), tt)); names = refl },
                  (
                    record { good = refl; number = tt; words = (refl, tt); names = refl },
                    (
                      record { good = refl; number = refl; words = (refl, ((refl, refl), ((refl, refl), tt))); names = refl },
                      (
                        record { good = refl; number = refl; words = (refl, ((refl, refl), (refl, ((refl, refl), (refl, (written_0, tt)))))); names = refl },
                        (
                          record { good = refl; number = refl; words = (refl, ((refl, refl), tt)); names = refl },
                          (
                            record { good = refl; number = tt; words = (refl, tt); names = refl },
                            (
                              record { good = refl; number = refl; words = (refl, ((refl, refl), ((refl, refl), tt))); names = refl },
                              (
                                record { good = refl; number = refl; words = (refl, ((refl, refl), tt)); names = refl },
                                (
                                  record { good = refl; number = tt; words = (refl, tt); names = refl },
                                  tt,
                                ),
                              ),
                            ),
                          ),
                        ),
                      ),
                    ),
                  ),
                ),
              ),
            ),
          ),
        ),
      ),
    ),
  ),
)

worked_within : AllByRecursion IsWithin worked_funs
worked_within = (
  record { lines = omega arith; locals = omega arith },
  (
    record { lines = omega arith; locals = omega arith },
    (
      record { lines = omega arith; locals = omega arith },
      (record { lines = omega arith; locals = omega arith }, tt),
    ),
  ),
)

pub worked_is_source : IsSource worked_text worked
worked_is_source =
    record { funs = worked_funs; reads = record { lines = worked_lines; few = omega arith; each = worked_within }; right = refl; is = refl }

unknown_read : Reads unknown_text unknown_funs
unknown_read =
    record {
      lines = (
        record { good = refl; number = refl; words = (refl, ((refl, refl), tt)); names = refl },
        (
          record { good = refl; number = refl; words = (refl, ((refl, refl), (refl, ((refl, refl), (written_3, tt))))); names = refl },
          (record { good = refl; number = tt; words = (refl, tt); names = refl }, tt),
        ),
      );
      few = omega arith;
      each = (record { lines = omega arith; locals = omega arith }, tt);
    }

pub unknown_refused : HasFault unknown_text 2 UnknownName
unknown_refused = inr (record { funs = unknown_funs; reads = unknown_read; fault = refl })

mainless_read : Reads mainless_text mainless_funs
mainless_read =
    record {
      lines = (
        record { good = refl; number = refl; words = (refl, ((refl, refl), tt)); names = refl },
        (record { good = refl; number = tt; words = (refl, tt); names = refl }, tt),
      );
      few = omega arith;
      each = (record { lines = omega arith; locals = omega arith }, tt);
    }

pub mainless_refused : HasFault mainless_text 0 NoMain
mainless_refused = inr (record { funs = mainless_funs; reads = mainless_read; fault = refl })

abbrev open_front : Front
open_front = record { funs = []; begun = Some open_fun }

open_right : IsFront open_front (filter counts (text_lines open_text))
open_right =
    record {
      lines = (
        record { good = refl; number = refl; words = (refl, ((refl, refl), tt)); names = refl },
        (record { good = refl; number = refl; words = (refl, (written_1, tt)); names = refl }, tt),
      );
      funs = omega arith;
      each = (record { lines = omega arith; locals = omega arith }, tt);
    }

pub open_refused : HasFault open_text 3 BadLine
open_refused = inl (inr (record { front = open_front; inside = refl; right = open_right; at = refl; is_bad = refl }))

-- ---- faults of lines
-- no number of 64 bits is written so
too_wide : (other : ℤ) → FitsSigned w64 other × Writes (codes "9223372036854775808") other → ⊥
too_wide other h = by other (h.1.1) h.0
  where
    by : (other : ℤ) → pos 9223372036854775808 ≡ other → FitsSigned w64 other → ⊥
    by other e f = let g : FitsSigned w64 (pos 9223372036854775808) = subst (FitsSigned w64) (sym e) f in omega (arith, ints, g)

abbrev wide_fun : NamedFun
wide_fun = record { name = codes "main"; number = 1; params = []; lines = [] }

abbrev wide_form : Form
wide_form = Body (record { number = 2; stmt = Print None (Literal (pos 0)) })

pub wide_refused : HasFault wide_text 2 BadNumber
wide_refused =
    inl (inl (record {
      front = record { funs = []; begun = Some wide_fun };
      before = record { number = 1; text = codes "fun main" } ∷ [];
      line = record { number = 2; text = codes "print 9223372036854775808" };
      after = record { number = 3; text = codes "end" } ∷ [];
      lines = refl;
      right = record {
        lines = (record { good = refl; number = refl; words = (refl, ((refl, refl), tt)); names = refl }, tt);
        funs = omega arith;
        each = (record { lines = omega arith; locals = omega arith }, tt);
      };
      fault =
          is_wide refl wide_form
          (record { good = refl; number = refl; words = (inl refl, (inr ((refl, too_wide), refl), tt)); shaped = refl }) tt
          (λ e. elim e [ inl h ↦ omega (arith, h) | inr h ↦ omega (arith, h) ]) (inr (inl (refl, too_wide)));
      at = refl;
    }))

abbrev many_params : List (List ℕ)
many_params = codes "a" ∷ codes "b" ∷ codes "c" ∷ codes "d" ∷ codes "e" ∷ codes "g" ∷ codes "h" ∷ []

abbrev many_form : Form
many_form = Body (record { number = 2; stmt = Let (codes "i") (Literal (pos 0)) })

pub many_refused : HasFault many_text 2 TooMany
many_refused =
    inl (inl (record {
      front = record { funs = []; begun = Some (record { name = codes "f"; number = 1; params = many_params; lines = [] }) };
      before = record { number = 1; text = codes "fun f a b c d e g h" } ∷ [];
      line = record { number = 2; text = codes "let i = 9223372036854775808" };
      after = record { number = 3; text = codes "end" } ∷ [];
      lines = refl;
      right = record {
        lines = (
          record {
            good = refl;
            number = refl;
            words = (
              refl,
              ((refl, refl), ((refl, refl), ((refl, refl), ((refl, refl), ((refl, refl), ((refl, refl), ((refl, refl), ((refl, refl), tt)))))))),
            );
            names = refl;
          },
          tt,
        );
        funs = omega arith;
        each = (record { lines = omega arith; locals = omega arith }, tt);
      };
      fault =
          is_many refl many_form
          (record {
            good = refl;
            number = refl;
            words = (inl refl, (inl (refl, refl), (inl refl, (inr ((refl, too_wide), refl), tt))));
            shaped = refl;
          }) tt (inr (omega arith));
      at = refl;
    }))
