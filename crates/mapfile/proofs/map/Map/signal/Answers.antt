use Rattle.std.proofs.Common.{Some, ap, ◌∙◌}
use Rattle.mapfile.specs.Bytes.{word}
use Rattle.mapfile.proofs.Same.{same_signal}
use Rattle.mapfile.proofs.map.Map.signal.Goals as goal

pub returns-clause-known : goal.returns-clause-known
returns-clause-known c h =
    let e = c.in_ok-bytes.ensures.bytes in
    ap Some (same_signal _ _ (c.word_at.ensures ∙ ap (λ b. word b 0) e) (c.word_at-2.ensures ∙ ap (λ b. word b 2) e) (c.word_at-3.ensures ∙ ap (λ b. word b 4) e))
