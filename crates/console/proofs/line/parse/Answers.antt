use Rattle.std.proofs.Common.{sym, ◌∙◌}
use Rattle.console.proofs.Spelling.{spelt_of_meaning, meaning_of_spelt}
use Rattle.console.proofs.line.parse.Goals as goal

pub returns : goal.returns
returns c =
    let s = c.args.line.now in
    record {
      value = c.meant.ensures;
      spelt = λ d h. spelt_of_meaning s d (sym c.meant.ensures ∙ h);
      reads = λ d h. c.meant.ensures ∙ meaning_of_spelt s d h;
    }
