-- Kinds of locals.
use Rattle.std.specs.Prelude.{◌≡◌, ◌⊎◌}
use Rattle.ak_script.specs.declared.script.Kind.{Kind}
use Rattle.ak_script.specs.declared.script.Kind.TheVariants as of_kind

-- a local of the one kind may stand where the other is wanted: an ivar may be used as a deferred
abbrev pub Serves : Kind → Kind → Type 0
Serves kind wanted = (kind ≡ wanted) ⊎ ((kind ≡ of_kind.Ivar) × (wanted ≡ of_kind.Def))
