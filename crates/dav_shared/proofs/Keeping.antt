-- What keeps to a page: each change of the entries of a cache of absent names.
use Rattle.std.proofs.Common.{◌≡◌, ℕ, ◌+◌, ◌&&◌, ◌==◌, true, false, List, [], ◌∷◌, length, Option, Some, None, refl, sym, ap, subst, ◌∙◌, inl, inr, not}
use Rattle.std.specs.List.{list_any, list_all}
use Rattle.std.specs.Map.{lookup}
use Rattle.std.proofs.lemmas.Bool.{and_parts, not-true}
use Rattle.std.proofs.lemmas.Bool.Decides.{Decides-eqb}
use Rattle.std.specs.Option.{option_map_or}
use Rattle.dav_io.specs.declared.clock.Moment.{Moment}
use Rattle.dav_memory.specs.declared.sealed.Sealed.{Sealed}
use Rattle.dav_memory.specs.declared.sealed.Sealed.TheVariants.{Done, Last, NoMemory}
use Rattle.dav_memory.specs.Trees.{Name, Names, FileTime, is_dot, same_name, same_time}
use Rattle.dav_memory.specs.declared.key.DuKey.{DuKey}
use Rattle.dav_memory.specs.declared.key.DuEntry.{DuEntry}
use Rattle.dav_memory.specs.Entries.{Dots, DotCache, Listed, AreCounted, are_sealable, sealed, purged, without, is_old_dot, dir_key, name_key, same_key, stands}
use Rattle.dav_memory.specs.Calls.{Seals}
use Rattle.dav_memory.proofs.Keys.{path_tells, name_tells, time_decides}
use Rattle.dav_memory.proofs.Lists.{purged-take}
use Rattle.dav_cache.proofs.MemoryCalls.{SameFor, same-take, same-dropped, sealed-others, sealed-own}
use Rattle.dav_shared.specs.Books.{Page, KeepsTo, MaySeal, IsUntold, has_in, stands_at}

-- what keeps what stands of each directory's entry keeps to the page
pub keeps_same : (page : Page) (old new : Dots) → ((d : Names) → SameFor d old new) → KeepsTo page old → KeepsTo page new
keeps_same page old new same keeps dir e told h is x = let was = same dir e h in was.1 x ∙ keeps dir e told was.0 is x

pub keeps_dropped : (page : Page) (dir : Names) (old : Dots) → KeepsTo page old → KeepsTo page (without (same_key (dir_key dir)) old)
keeps_dropped page dir old keeps = keeps_same page old (without (same_key (dir_key dir)) old) (λ d. same-dropped d dir old) keeps

pub keeps_purged : (page : Page) (now : Moment) (next : ℕ) (old : Dots) → AreCounted next old → KeepsTo page old → KeepsTo page (purged (is_old_dot now) old)
keeps_purged page now next old kept keeps =
    let cut = purged-take (is_old_dot now) old in
    keeps_same page old (purged (is_old_dot now) old) (λ d. subst (λ w. SameFor d old w) (sym cut.1) (same-take d cut.0 old kept.falling)) keeps

-- names that begin with `._` have no other
none_other : (names : List Name) (x : Name) → list_all is_dot names ≡ true → is_dot x ≡ false → list_any (same_name x) names ≡ false
none_other [] x all other = refl
none_other (name ∷ names) x all other =
    let parts = and_parts (is_dot name) (list_all is_dot names) all in
    elim (name_tells x name) [
      | inl is ↦ let d : is_dot x ≡ true = ap is_dot is.1 ∙ parts.0 in let bad : true ≡ false = sym d ∙ other in absurd cc
      | inr is ↦ rw (is.0) (none_other names x parts.1 other)
    ]

-- of names that may be sealed all count
pub has_sealable : (names : List Name) (x : Name) → list_all is_dot names ≡ true → has_in names x ≡ list_any (same_name x) names
has_sealable names x all = (elim (is_dot x) as (λ b. is_dot x ≡ b → has_in names x ≡ list_any (same_name x) names) [
  | true ↦ λ is. rw is refl
  | false ↦ λ is. rw is (sym (none_other names x all is))
]) refl

module _ (page : Page) (size : ℕ) (old : Dots) (l : Listed) (kept : AreCounted l.number old) where
  pub keeps_listed : (names : List Name) (room : ℕ) → list_all is_dot names ≡ true → MaySeal page l.dir l.time names → KeepsTo page old
      → KeepsTo page (sealed size l names room old)
  keeps_listed names room all may keeps dir e told h is x = elim (path_tells l.dir dir) [
    | inl same ↦
        let own = sealed-own size old l kept names room e (subst (λ w. lookup (same_key (dir_key w)) (sealed size l names room old) ≡ Some e) (sym same.1) h) in
        let is' : page l.dir l.time ≡ Some told = ap (λ w. page w l.time) same.1 ∙ ap (page dir) (sym own.1) ∙ is in
        subst (λ w. stands (sealed size l names room old) (name_key w x) e.number ≡ has_in told x) same.1 (own.2 x ∙ sym (has_sealable names x all) ∙ may told is' x)
    | inr ne ↦
        let other = sealed-others size old l kept dir names room (λ q. ne.1 (sym q)) e h in
        other.1 x ∙ keeps dir e told other.0 is x
  ]

-- a seal, however it ends
pub keeps_sealed : (page : Page) (old new : DotCache) (dir : DuKey) (time : FileTime) (names : List Name) (now : Moment) (result : Sealed)
    → AreCounted old.next old.entries → are_sealable names ≡ true → MaySeal page dir.dir time names → Seals old dir time now names result new
    → KeepsTo page old.entries → KeepsTo page new.entries
keeps_sealed page old new dir time names now Done kept can may seals keeps =
    let l : Listed = record { dir = dir.dir; time = time; moment = now; number = old.next } in
    let all = (and_parts (list_all is_dot names) _ can).0 in
    subst (λ (c : DotCache). KeepsTo page c.entries) (sym seals.1) (keeps_listed page old.size old.entries l kept names (length names + 1) all may keeps)
keeps_sealed page old new dir time names now Last kept can may seals keeps = subst (λ (c : DotCache). KeepsTo page c.entries) (sym seals.1) keeps
keeps_sealed page old new dir time names now NoMemory kept can may seals keeps =
    let l : Listed = record { dir = dir.dir; time = time; moment = now; number = old.next } in
    let all = (and_parts (list_all is_dot names) _ can).0 in
    subst (λ (c : DotCache). KeepsTo page c.entries) (sym seals.3) (keeps_listed page old.size old.entries l kept names seals.1 all may keeps)

pub keeps_none : (page : Page) → KeepsTo page []
keeps_none page dir e told h is x = cc

-- A name whose entry doesn't stand with the number of the directory's entry isn't told.
pub denies_rightly : (page : Page) (dots : Dots) (dir name : DuKey) (number : ℕ) (time : FileTime) → KeepsTo page dots → dir.name ≡ None
    → stands_at dots dir time ≡ true
    → (stands dots dir number && not (stands dots name number)) ≡ true
    → (x : Name) → name ≡ name_key dir.dir x → IsUntold page dir.dir time x
denies_rightly page dots dir name number time keeps plain at is x named told tells =
    let parts = and_parts (stands dots dir number) (not (stands dots name number)) is in
    let key : dir_key dir.dir ≡ dir = ap (λ n. record { dir = dir.dir; name = n }) (sym plain) in
    let absent : stands dots (name_key dir.dir x) number ≡ false = ap (λ k. stands dots k number) (sym named) ∙ not-true (stands dots name number) parts.1 in
    let Q : Option DuEntry → Type 0 = λ o. lookup (same_key dir) dots ≡ o → option_map_or (λ (w : DuEntry). same_time w.time time) o false ≡ true
    → option_map_or (λ (w : DuEntry). w.number == number) o false ≡ true → has_in told x ≡ false in
    (elim (lookup (same_key dir) dots) as Q [
      | None ↦ λ h timed stood. cc
      | Some e ↦ λ h timed stood.
          let n : e.number ≡ number = (Decides-eqb e.number number).0 stood in
          let found : lookup (same_key (dir_key dir.dir)) dots ≡ Some e = ap (λ k. lookup (same_key k) dots) key ∙ h in
          let told' : page dir.dir e.time ≡ Some told = ap (page dir.dir) ((time_decides e.time time).0 timed) ∙ tells in
          sym (keeps dir.dir e told found told' x) ∙ ap (λ m. stands dots (name_key dir.dir x) m) n ∙ absent
    ]) refl at parts.0

-- ---- the same, by what a call says of a cache

pub after_drop : (page : Page) (old new : DotCache) (key : DuKey) → key.name ≡ None → new ≡ record old { entries = without (same_key key) old.entries }
    → KeepsTo page old.entries → KeepsTo page new.entries
after_drop page old new key plain is keeps =
    let whole : dir_key key.dir ≡ key = ap (λ n. record { dir = key.dir; name = n }) (sym plain) in
    subst (λ (c : DotCache). KeepsTo page c.entries) (sym is) (subst (λ k. KeepsTo page (without (same_key k) old.entries)) whole (keeps_dropped page key.dir old.entries keeps))

pub after_purge : (page : Page) (old new : DotCache) (now : Moment) → AreCounted old.next old.entries → new ≡ record old { entries = purged (is_old_dot now) old.entries }
    → KeepsTo page old.entries → KeepsTo page new.entries
after_purge page old new now kept is keeps = subst (λ (c : DotCache). KeepsTo page c.entries) (sym is) (keeps_purged page now old.next old.entries kept keeps)
