use Rattle.std.proofs.Common.{◌≡◌, Err, sym, refl, ap, ◌∙◌}
use Rattle.std.proofs.lemmas.Result.{err_from_is_err_and}
use Rattle.mapfile.specs.File.{checks}
use Rattle.mapfile.specs.Layout.{counts}
use Rattle.mapfile.proofs.Lawful.{sized_of_ok, rules_of_ok, counts_of_ok, lawful_of_ok, first_of_err, kept_of_lawful}
use Rattle.mapfile.proofs.Lists.{err_any, ok_of_kept, kept_of_ok, passed_on}
use Rattle.mapfile.proofs.map.Map.read.Goals as goal

pub returns-in_err-counts-clause-value : goal.returns-in_err-counts-clause-value
returns-in_err-counts-clause-value c =
    let f = c.args.file.now in
    passed_on _ _ _ c.from_residual.ensures.1 (err_any (checks f) (counts f) (tt {0}) _ (sym c.check_file.ensures ∙ c.in_err-counts.was))

pub returns-in_err-counts-clause-lawful : goal.returns-in_err-counts-clause-lawful
returns-in_err-counts-clause-lawful c l =
    let f = c.args.file.now in
    let o = ok_of_kept (checks f) (counts f) (kept_of_lawful f l) in
    let e = sym c.check_file.ensures ∙ c.in_err-counts.was in
    cc (o, e)

pub returns-in_err-counts-clause-first : goal.returns-in_err-counts-clause-first
returns-in_err-counts-clause-first c e h =
    let f = c.args.file.now in
    let p = err_from_is_err_and c.from_residual.result c.from_residual.ensures.1 in
    let same : c.in_err-counts.field-0.0 ≡ e = cc (p.1, p.2, h) in
    first_of_err (checks f) (counts f) e (sym c.check_file.ensures ∙ c.in_err-counts.was ∙ ap Err same)

pub invariant_of-self : goal.invariant_of-self
invariant_of-self c =
    let f = c.args.file.now in
    let n = c.in_ok-counts.counts in
    let h = sym c.check_file.ensures ∙ c.in_ok-counts.was in
    let r = rules_of_ok f n h in
    record { sized = sized_of_ok f n h; each_place = r.0; each_link = r.1; each_sign = r.2; each_signal = r.3; each_spare = r.4 }

pub returns-clause-value : goal.returns-clause-value
returns-clause-value c =
    let f = c.args.file.now in
    sym (ok_of_kept (checks f) tt (kept_of_ok (checks f) (counts f) c.in_ok-counts.counts (sym c.check_file.ensures ∙ c.in_ok-counts.was)))

pub returns-clause-accepts : goal.returns-clause-accepts
returns-clause-accepts c _ = lawful_of_ok c.args.file.now c.in_ok-counts.counts (sym c.check_file.ensures ∙ c.in_ok-counts.was)

pub returns-clause-filled : goal.returns-clause-filled
returns-clause-filled c _ = record { bytes = refl; counted = counts_of_ok c.args.file.now c.in_ok-counts.counts (sym c.check_file.ensures ∙ c.in_ok-counts.was) }
