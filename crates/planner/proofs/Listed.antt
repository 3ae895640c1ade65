-- One change more of a list.
use Rattle.std.proofs.Common.{◌≡◌, ℕ, ◌+◌, ◌<◌, List, length, get_or, take, sym, ap, ◌∙◌}
use Rattle.std.proofs.lemmas.List.Sums.{fold_more}
use Rattle.mapfile.specs.declared.counts.Counts.{Counts}
use Rattle.planner.specs.declared.change.Change.{Change}
use Rattle.planner.specs.Book.{Book, after, after_all}

pub listed_more : (n m : Counts) (b x y : Book) (cs : List Change) (i : ℕ) (d : Change) → i < length cs → m ≡ n → x ≡ after_all n b (take i cs) → y ≡ after m x (get_or cs i d) → y ≡ after_all n b (take (i + 1) cs)
listed_more n m b x y cs i d h e f g =
    g ∙ ap (λ k. after k x (get_or cs i d)) e ∙ ap (λ z. after n z (get_or cs i d)) f ∙ sym (fold_more (after n) b cs i d h)
