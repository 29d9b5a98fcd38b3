use Rattle.std.proofs.Common.{◌≡◌, true, sym}
use Rattle.std.specs.List.{list_all}
use Rattle.std.proofs.lemmas.Str.{IsUtf8-from_ascii}
use Rattle.ak_text.specs.Numbers.{is_digit}
use Rattle.ak_text.proofs.Digits.{digits_are_ascii, digits_read}
use Rattle.ak_text.proofs.read.read_digits.Goals as goal

pub returns-in_default : goal.returns-in_default
returns-in_default c p = c.in_default.ensures.cases.0 (IsUtf8-from_ascii c.args.digits.now (digits_are_ascii c.args.digits.now p.0.1))

pub returns : goal.returns
returns c =
    let all : list_all is_digit c.args.digits.now ≡ true = sym (c.if-not-are_digits.ensures) in
    rw (c.ok.ensures.value) (digits_read c.args.digits.now c.parse.result all (rw (c.in-Ok.ensures.cases.0) at (c.parse.ensures.value.0)))
