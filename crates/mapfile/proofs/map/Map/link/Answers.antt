use Rattle.std.proofs.Common.{Some, ap, ◌∙◌}
use Rattle.mapfile.specs.Bytes.{byte, word}
use Rattle.mapfile.specs.View.{signal_named}
use Rattle.mapfile.proofs.Same.{same_link}
use Rattle.mapfile.proofs.map.Map.link.Goals as goal

pub returns-clause-known : goal.returns-clause-known
returns-clause-known c h =
    let e = c.in_ok-bytes.ensures.bytes in
    ap Some (same_link _ _
    (c.word_at.ensures ∙ ap (λ b. word b 0) e)
    (c.word_at-2.ensures ∙ ap (λ b. word b 2) e)
    (c.word_at-3.ensures ∙ ap (λ b. word b 4) e)
    (ap (λ b. byte b 6) e)
    (c.named_signal.ensures ∙ ap signal_named (c.word_at-4.ensures ∙ ap (λ b. word b 8) e))
    (c.word_at-5.ensures ∙ ap (λ b. word b 10) e))
