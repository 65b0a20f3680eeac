-- All lines stand at the start of their buffer, and end within it.
use mathlib.Core.Path.{subst}
use native.Mathlib.Omega.{arith}
use Rattle.std.specs.Io.KnownBytes.{Appends}
use Rattle.texts.proofs.PutLaws.{put_length}
use Rattle.chains.proofs.TableLaws.{put_front}
use Rattle.chains.proofs.write_chains.Goals as goal

pub slice_bounds-write_text-end : goal.slice_bounds-write_text-end
slice_bounds-write_text-end g c = omega (arith, c.requires, c.put_chains-end.ensures.1, put_length c.put_chains-end.ensures.0)

pub returns : goal.returns
returns g c = λ written.
    let put = c.put_chains-end.ensures in
    let all = put_front put.0 (omega (arith, c.requires, put.1)) in
    subst (Appends (g.W.Write.contents c.args.output.now) (g.W.Write.contents c.write_text.new.output)) all (c.write_text.ensures written)
