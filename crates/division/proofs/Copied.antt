-- What `get(i).copied()` reads from a slice.
use Rattle.std.proofs.Common.{◌≡◌, ℕ, ◌<◌, List, length, slice_index_or, Option, Some, None, Bor, sym, refl, ap, ◌∙◌, arith}
use Rattle.std.specs.Option.{option_copied}
use Rattle.std.specs.Slice.{IsItemAt}
use Rattle.std.proofs.lemmas.Bool.{ltb-true}
use Rattle.std.proofs.lemmas.Option.{slice_get_read, get_or_from_slice_get}
use Rattle.network.specs.Leaving.{leaving_of}
use Rattle.network.specs.declared.link.OpenLink.{OpenLink}
use Rattle.network.specs.Links.{blank}
use Rattle.network.specs.declared.network.Network.{Network}
use Rattle.network.proofs.Leaving.{leaving_place}

pub copied_within : {X : Type 0} (xs : List X) (i : ℕ) (r : Option (Bor X)) (x : X) → IsItemAt xs i r → option_copied r ≡ Some x → i < length xs
copied_within xs i (Some b) x at e = ltb-true i (length xs) (sym at.0)
copied_within xs i None x at e = absurd cc

pub copied_at : {X : Type 0} (xs : List X) (i : ℕ) (r : Option (Bor X)) (x d : X) → IsItemAt xs i r → option_copied r ≡ Some x → slice_index_or xs i d ≡ x
copied_at xs i (Some b) x d at e =
    let same : b.now ≡ x = cc in
    get_or_from_slice_get xs i b.now d (slice_get_read xs (length xs) i b.now refl (copied_within xs i (Some b) x at e) at.1) ∙ same
copied_at xs i None x d at e = absurd cc

-- a link that is read from those of a place
pub copied_known : (n : Network) (u : ℕ) → u < n.places → {xs : List OpenLink} → xs ≡ leaving_of n u → {i : ℕ} (r : Option (Bor OpenLink)) {x : OpenLink} → IsItemAt xs i r → option_copied r ≡ Some x → x.head < n.places
copied_known n u here {xs} e {i} r {x} at same = omega (arith, ap (λ l. l.head) (copied_at xs i r x blank at same), leaving_place n u here xs e i (copied_within xs i r x at same))
