use Rattle.std.proofs.Common.{sym, ◌∙◌}
use Rattle.mapfile.specs.declared.body.BodyKind.TheVariants.{Places, Links, Signals}
use Rattle.mapfile.proofs.Lists.{passed_on}
use Rattle.mapfile.proofs.Reading.{body_told, contents_stop, length_stop, places_stop, links_stop, signals_stop, all_kept}
use Rattle.mapfile.proofs.reader.check_file.Goals as goal

pub returns-in_err-counts : goal.returns-in_err-counts
returns-in_err-counts c =
    passed_on _ _ _ c.from_residual.ensures.1 (contents_stop c.args.file.now _ (sym c.check_contents.ensures.value ∙ c.in_err-counts.was))

pub returns-in_err-bodies : goal.returns-in_err-bodies
returns-in_err-bodies c =
    let contents = sym c.check_contents.ensures.value ∙ c.in_ok-counts.was in
    passed_on _ _ _ c.from_residual-in_err-bodies.ensures.1 (length_stop c.args.file.now c.in_ok-counts.counts _ contents c.in_err-bodies.ensures.broken)

pub returns-in_err-check : goal.returns-in_err-check
returns-in_err-check c =
    let contents = sym c.check_contents.ensures.value ∙ c.in_ok-counts.was in
    let o = c.in_ok-bodies.ensures in
    let broken = body_told Places o.file o.counts c.check.ensures c.in_err-check.was in
    passed_on _ _ _ c.from_residual-in_err-check.ensures.1 (places_stop c.args.file.now c.in_ok-counts.counts _ contents o.kept broken)

pub returns-in_err-check-2 : goal.returns-in_err-check-2
returns-in_err-check-2 c =
    let contents = sym c.check_contents.ensures.value ∙ c.in_ok-counts.was in
    let o = c.in_ok-bodies.ensures in
    let places = body_told Places o.file o.counts c.check.ensures c.in_ok-check.was in
    let broken = body_told Links o.file o.counts c.check-2.ensures c.in_err-check-2.was in
    passed_on _ _ _ c.from_residual-in_err-check-2.ensures.1 (links_stop c.args.file.now c.in_ok-counts.counts _ contents o.kept places broken)

pub returns-in_err-check-3 : goal.returns-in_err-check-3
returns-in_err-check-3 c =
    let contents = sym c.check_contents.ensures.value ∙ c.in_ok-counts.was in
    let o = c.in_ok-bodies.ensures in
    let places = body_told Places o.file o.counts c.check.ensures c.in_ok-check.was in
    let links = body_told Links o.file o.counts c.check-2.ensures c.in_ok-check-2.was in
    let broken = body_told Signals o.file o.counts c.check-3.ensures c.in_err-check-3.was in
    passed_on _ _ _ c.from_residual-in_err-check-3.ensures.1 (signals_stop c.args.file.now c.in_ok-counts.counts _ contents o.kept places links broken)

pub returns : goal.returns
returns c =
    let contents = sym c.check_contents.ensures.value ∙ c.in_ok-counts.was in
    let o = c.in_ok-bodies.ensures in
    let places = body_told Places o.file o.counts c.check.ensures c.in_ok-check.was in
    let links = body_told Links o.file o.counts c.check-2.ensures c.in_ok-check-2.was in
    let signals = body_told Signals o.file o.counts c.check-3.ensures c.in_ok-check-3.was in
    sym (all_kept c.args.file.now c.in_ok-counts.counts contents o.kept places links signals)
