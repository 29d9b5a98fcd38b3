use Rattle.std.proofs.Common.{◌≤◌, take}
use Rattle.ak_base.specs.Streams.{Passes}
use Rattle.ak_print.specs.Piece.{pieces_bytes}
use Rattle.ak_print.proofs.piece.put_pieces.Given as goal

abbrev pub invariant-loop-piece : goal.invariant-loop-piece
invariant-loop-piece g l = record {
  passes : Passes
      (g.K.Sink.taken l.initial.sink)
      (g.K.Sink.taken l.sink)
      l.initial.buffer
      l.buffer
      (pieces_bytes (take l.piece-index l.pieces));
  never_falls : g.K.Sink.faults l.initial.sink ≤ g.K.Sink.faults l.sink;
}
