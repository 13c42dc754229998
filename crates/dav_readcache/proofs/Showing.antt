-- A sound content is what stands there.
use Rattle.std.specs.Prelude.{◌≡◌, ℕ, List, Bool, true, false, cond, Option, None, Some, refl, nat_eq}
use Rattle.std.proofs.Common.{sym, ap, ◌∙◌}
use Rattle.std.specs.Cmp.{unsigned_Decides}
use Rattle.std.specs.Cmp.Lexicographic.{pointwise}
use Rattle.std.proofs.lemmas.Bool.{and_parts}
use Rattle.std.proofs.lemmas.Slice.Eq.{slice_eq-Decides}
use Rattle.dav_core.specs.Tree.{is_file}
use Rattle.dav_core.specs.World.{World}
use Rattle.dav_store.specs.Standing.{Standing}
use Rattle.dav_readcache.specs.declared.cached.Content.{Content}
use Rattle.dav_readcache.specs.Cached.{is_of, is_tag, shown}
use Rattle.dav_readcache.specs.Sound.{IsFileIn, IsSoundIn}

pub tag_same : (tag : List ℕ) (other : Option (List ℕ)) → is_tag tag other ≡ true → other ≡ Some tag
tag_same tag None e = cc
tag_same tag (Some x) e = ap (λ y. Some y) (sym ((slice_eq-Decides unsigned_Decides tag x (pointwise nat_eq tag x) refl).0 e))

pub same_bytes : (b : Bool) (bytes : List ℕ) (there : Standing) → (b ≡ true → bytes ≡ there.bytes) → cond b (record there { bytes = bytes }) there ≡ there
same_bytes true bytes there e = ap (λ x. record there { bytes = x }) (e refl)
same_bytes false bytes there e = refl

pub shows_there : (w : World) (c : Content) (there : Standing) → IsSoundIn w c.tag c.bytes → IsFileIn w there → shown (Some c) there ≡ there
shows_there w c there sound is = same_bytes (is_of c there.kind there.tag) c.bytes there (λ e.
    sym (sound there.number is.held (sym is.tag ∙ tag_same c.tag there.tag (and_parts (is_file there.kind) (is_tag c.tag there.tag) e).1)) ∙ sym is.bytes)
