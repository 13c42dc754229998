-- Which links stand on the way to a path behind the edits of an upload, and behind a removal.
use Rattle.std.proofs.Common.{◌≡◌, ◌&&◌, ◌||◌, ◌++◌, inl, inr, ℕ, List, [], ◌∷◌, map, Bool, true, false, not, refl, sym, ap, ◌∙◌}
use Rattle.dav_core.specs.declared.tree.Row.{Row}
use Rattle.dav_core.specs.declared.tree.Kind.TheVariants.{File}
use Rattle.dav_core.specs.declared.time.FileTime.{FileTime}
use Rattle.dav_core.specs.Changes.{without}
use Rattle.dav_core.specs.Edits.{Edited, fills, makes, takes, timed_number as renewed_row}
use Rattle.dav_core.specs.Path.{Names, is_front, parent_of}
use Rattle.dav_core.specs.Tree.{is_link, is_linked}
use Rattle.dav_core.specs.World.{SameBesidesOpens, World}
use Rattle.dav_upload.specs.Steps.{SameLinks}
use Rattle.dav_upload.proofs.Ends.{timed_linked}
use Rattle.dav_upload.proofs.Kept.{renewed_kind}
use Rattle.dav_upload.proofs.Making.{renewed_path}
use Rattle.std.proofs.lemmas.Bool.{or_parts}

pub links_then : (u v w : World) → SameLinks u v → SameLinks v w → SameLinks u w
links_then u v w a b p = b p ∙ a p

pub links_same : (v w : World) → v ≡ w → SameLinks v w
links_same v w e p = ap (λ (x : World). is_linked x.tree p) (sym e)

pub links_kept : (v w : World) → SameBesidesOpens v w → SameLinks v w
links_kept v w same p = ap (λ rows. is_linked rows p) same.tree

-- a file more
file_more : (row : Row) (rows : List Row) (p : Names) → row.kind ≡ File → is_linked (rows ++ row ∷ []) p ≡ is_linked rows p
file_more row [] p kind = ap (λ k. (is_link k && is_front row.path p) || false) kind
file_more row (r ∷ rows) p kind = ap (λ b. (is_link r.kind && is_front r.path p) || b) (file_more row rows p kind)

pub links_made : (v w : World) (hidden : Names) (bytes : List ℕ) → Edited (makes hidden File bytes) v w → SameLinks v w
links_made v w hidden bytes (number, t, u, next, new, later, becomes) p =
    let row : Row = record { path = hidden; kind = File; number = number; time = t } in
    ap (λ rows. is_linked rows p) becomes.tree ∙ (timed_linked (parent_of hidden) u (v.tree ++ row ∷ []) p ∙ file_more row v.tree p refl)

renewed_linked : (number : ℕ) (t : FileTime) (rows : List Row) (p : Names) → is_linked (map (renewed_row number t) rows) p ≡ is_linked rows p
renewed_linked number t [] p = refl
renewed_linked number t (r ∷ rows) p = rw (renewed_kind number t r, renewed_path number t r, renewed_linked number t rows p) refl

pub links_filled : (v w : World) (number : ℕ) (bytes : List ℕ) → Edited (fills number bytes) v w → SameLinks v w
links_filled v w number bytes (inl (is, same)) p = links_kept v w same p
links_filled v w number bytes (inr (other, t, new, becomes)) p = ap (λ rows. is_linked rows p) becomes.tree ∙ renewed_linked number t v.tree p

-- ---- where no link stood

less_linked : (path : Names) (rows : List Row) (p : Names) → is_linked rows p ≡ false → is_linked (without path rows) p ≡ false
less_linked path [] p clear = refl
less_linked path (r ∷ rows) p clear =
    let parts = or_parts (is_link r.kind && is_front r.path p) (is_linked rows p) clear in
    by (not (is_front path r.path)) refl parts.0 (less_linked path rows p parts.1)
  where
    by : (b : Bool) → not (is_front path r.path) ≡ b → (is_link r.kind && is_front r.path p) ≡ false → is_linked (without path rows) p ≡ false → is_linked (without path (r ∷ rows)) p ≡ false
    by false e one rest = rw e rest
    by true e one rest = rw e (rw one rest)

pub taken_unlinked : (v w : World) (path p : Names) → Edited (takes path) v w → is_linked v.tree p ≡ false → is_linked w.tree p ≡ false
taken_unlinked v w path p (t, new, becomes) clear =
    ap (λ rows. is_linked rows p) becomes.tree ∙ (timed_linked (parent_of path) t (without path v.tree) p ∙ less_linked path v.tree p clear)
