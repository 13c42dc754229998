-- The tests of names, paths, keys and times decide equality.
use Rattle.std.proofs.Common.{◌≡◌, ◌≢◌, Bool, true, false, Option, Some, None, refl, sym, ap, inl, inr, ◌⊎◌}
use Rattle.std.specs.Bool.{Decides}
use Rattle.std.specs.Option.{option_eq}
use Rattle.std.specs.Ordering.{int_eq}
use Rattle.std.proofs.lemmas.Slice.Eq.{slice_eq-Decides, bytes_eq-Decides}
use Rattle.std.proofs.lemmas.Bool.{and_parts, and_from, false≢true}
use Rattle.std.proofs.lemmas.Bool.Decides.{Decides-eqb, Decides-int_eq}
use Rattle.dav_memory.specs.Trees.{Name, Names, FileTime, same_name, same_path, same_time}
use Rattle.dav_memory.specs.Entries.{DuKey, same_key, dir_key, name_key, is_time}

pub name_decides : (a b : Name) → Decides (same_name a b) (a ≡ b)
name_decides a b = bytes_eq-Decides a b

pub path_decides : (a b : Names) → Decides (same_path a b) (a ≡ b)
path_decides a b = slice_eq-Decides name_decides a b (same_path a b) refl

option_same : (a b : Option Name) → option_eq same_name a b ≡ true → a ≡ b
option_same None None h = refl
option_same None (Some b) h = cc
option_same (Some a) None h = cc
option_same (Some a) (Some b) h = ap Some ((name_decides a b).0 h)

option_alike : (a : Option Name) → option_eq same_name a a ≡ true
option_alike None = refl
option_alike (Some a) = (name_decides a a).1 refl

pub key_decides : (a b : DuKey) → Decides (same_key a b) (a ≡ b)
key_decides a b = (
  λ h. let parts = and_parts (same_path a.dir b.dir) (option_eq same_name a.name b.name) h in
      let d = (path_decides a.dir b.dir).0 parts.0 in
      let n = option_same a.name b.name parts.1 in
      λ i. record { dir = d i; name = n i },
  λ e. rw e (and_from _ _ ((path_decides b.dir b.dir).1 refl) (option_alike b.name)),
)

pub time_decides : (a b : FileTime) → Decides (same_time a b) (a ≡ b)
time_decides a b = (
  λ h. let parts = and_parts (int_eq a.secs b.secs) _ h in
      let s = (Decides-int_eq a.secs b.secs).0 parts.0 in
      let n = (Decides-eqb a.nanos b.nanos).0 parts.1 in
      λ i. record { secs = s i; nanos = n i },
  λ e. rw e (and_from _ _ ((Decides-int_eq b.secs b.secs).1 refl) ((Decides-eqb b.nanos b.nanos).1 refl)),
)

-- each test with what it tells
tells : {P : Type 0} (b : Bool) → Decides b P → ((b ≡ true) × P) ⊎ ((b ≡ false) × (P → ⊥))
tells true d = inl (refl, d.0 refl)
tells false d = inr (refl, λ p. false≢true (d.1 p))

pub key_tells : (a b : DuKey) → ((same_key a b ≡ true) × (a ≡ b)) ⊎ ((same_key a b ≡ false) × (a ≢ b))
key_tells a b = tells (same_key a b) (key_decides a b)

pub name_tells : (a b : Name) → ((same_name a b ≡ true) × (a ≡ b)) ⊎ ((same_name a b ≡ false) × (a ≢ b))
name_tells a b = tells (same_name a b) (name_decides a b)

pub time_tells : (a b : FileTime) → ((same_time a b ≡ true) × (a ≡ b)) ⊎ ((same_time a b ≡ false) × (a ≢ b))
time_tells a b = tells (same_time a b) (time_decides a b)

pub path_tells : (a b : Names) → ((same_path a b ≡ true) × (a ≡ b)) ⊎ ((same_path a b ≡ false) × (a ≢ b))
path_tells a b = tells (same_path a b) (path_decides a b)

pub path_cases : (a b : Names) → (a ≡ b) ⊎ (a ≢ b)
path_cases a b = elim (path_tells a b) [ inl is ↦ inl is.1 | inr is ↦ inr is.1 ]

pub dir≢name : (d e : Names) (x : Name) → dir_key d ≢ name_key e x
dir≢name d e x h = let n : None ≡ Some x = ap (λ (k : DuKey). k.name) h in absurd cc

pub same_dir : (d e : Names) → dir_key d ≡ dir_key e → d ≡ e
same_dir d e h = ap (λ (k : DuKey). k.dir) h

pub same_member : (d e : Names) (x y : Name) → name_key d x ≡ name_key e y → x ≡ y
same_member d e x y h = let n : Some x ≡ Some y = ap (λ (k : DuKey). k.name) h in cc

pub is_time_at : (t : FileTime) (o : Option FileTime) → is_time t o ≡ true → o ≡ Some t
is_time_at t None h = absurd (false≢true h)
is_time_at t (Some u) h = ap Some (sym ((time_decides t u).0 h))
