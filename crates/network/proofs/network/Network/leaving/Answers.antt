use Rattle.std.proofs.Common.{◌+◌, arith}
use Rattle.network.proofs.Parts.{rise}
use Rattle.network.proofs.network.Network.leaving.Goals as goal

pub slice_bounds-result-end-2 : goal.slice_bounds-result-end-2
slice_bounds-result-end-2 c =
    let n = c.args.self.now in
    omega (arith, rise n (c.args.place + 1) n.places (omega arith) (omega arith), n.sized)
