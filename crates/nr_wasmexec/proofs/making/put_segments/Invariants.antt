-- What holds at the loops of `making::put_segments`.
use Rattle.std.proofs.Common.{◌≡◌, drop}
use Rattle.nr_wasmexec.specs.Making.{all_into, segment_into}
use Rattle.nr_wasmexec.proofs.making.put_segments.Given as goal

abbrev pub invariant-loop-segment : goal.invariant-loop-segment
invariant-loop-segment l = (all_into (segment_into l.globals) l.memory.bytes (drop l.segment-index l.segments) ≡ all_into (segment_into l.globals) l.fn.memory.bytes l.segments) × (l.memory.most ≡ l.fn.memory.most)
