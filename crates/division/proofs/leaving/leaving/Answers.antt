use Rattle.std.proofs.Common.{◌+◌, arith}
use Rattle.network.proofs.Parts.{rise}
use Rattle.division.proofs.leaving.leaving.Goals as goal

pub slice_bounds-result-end : goal.slice_bounds-result-end
slice_bounds-result-end c =
    let n = c.args.net.now in
    omega (arith, rise n (c.args.place + 1) n.places (omega arith) (omega arith), n.sized)
