use Rattle.std.proofs.Common.{◌≡◌, ℕ, List, subst}
use Rattle.ak_base.specs.Streams.{TookBeginning, grown}
use Rattle.ak_tools.proofs.compiling.compile_source.Goals as goal

pub returns-in-Ok-write_all-clause-reports : goal.returns-in-Ok-write_all-clause-reports
returns-in-Ok-write_all-clause-reports g c = record {
  took = (
    c.in-Ok.script.items,
    c.in-Ok.ensures.script,
    subst
        (λ (bytes : List ℕ). g.K.Sink.taken c.write_all.new.sink ≡ grown (g.K.Sink.taken c.args.sink.now) bytes)
        c.as_slice.ensures.value c.in-Ok-write_all.ensures.takes,
  );
  refuses = c.in-Ok.ensures.refuses;
  completes = λ tells. tt;
}

pub returns-in-Ok-clause-reports : goal.returns-in-Ok-clause-reports
returns-in-Ok-clause-reports g c = record {
  took = (
    c.in-Ok.script.items,
    c.in-Ok.ensures.script,
    subst
        (λ (bytes : List ℕ). TookBeginning (g.K.Sink.taken c.args.sink.now) (g.K.Sink.taken c.write_all.new.sink) bytes)
        c.as_slice.ensures.value c.in-Err-write_all.ensures.begins,
  );
  refuses = c.in-Ok.ensures.refuses;
  completes = λ tells. tt;
}
