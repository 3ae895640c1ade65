use Rattle.std.proofs.Common.{sym, ◌∙◌}
use Rattle.division.proofs.Copied.{copied_known}
use Rattle.division.proofs.walk.Walk.turn.Goals as goal

pub enter-requires : goal.enter-requires
enter-requires c = copied_known c.args.self.now.net.now c.args.place c.requires c.leaving-links.ensures c.get.result c.get.ensures.lookup (sym c.copied.ensures ∙ c.in-Some.is)

pub is_new-requires : goal.is_new-requires
is_new-requires c = copied_known c.args.self.now.net.now c.args.place c.requires c.leaving-links.ensures c.get.result c.get.ensures.lookup (sym c.copied.ensures ∙ c.in-Some.is)
