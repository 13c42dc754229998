-- What waits behind a step may be settled.
use Rattle.std.proofs.Common.{◌≡◌, true, false, List, [], ◌∷◌, Option, None, Some, refl, sym, ◌∙◌}
use Rattle.dav_core.specs.declared.time.FileTime.{FileTime}
use Rattle.dav_core.specs.Path.{Names}
use Rattle.dav_model.specs.Folds.{Name, is_dot as is_dotted}
use Rattle.dav_model.specs.Rules.{SameDots}
use Rattle.dav_memory.specs.Trees.{is_dot}
use Rattle.dav_memory.proofs.Keys.{path_decides, time_decides}
use Rattle.dav_shared.specs.Books.{Page, Listing, MaySettle, has_in, is_of, kept_by}
use Rattle.dav_local.specs.Shown.{knowledge_of}
use Rattle.dav_sessions.specs.Sessions.{known_by_page}
use Rattle.dav_model.specs.Still.{Agree}

dotted : (x : Name) → is_dotted x ≡ is_dot x
dotted [] = refl
dotted (a ∷ []) = refl
dotted (a ∷ b ∷ rest) = refl

-- two lists with the same names that begin with `._`
same_in : (names told : List Name) → SameDots (has_in names) (has_in told) → (x : Name) → has_in names x ≡ has_in told x
same_in names told same x = (elim (is_dot x) as (λ b. is_dot x ≡ b → has_in names x ≡ has_in told x) [
  | true ↦ λ is. same x (dotted x ∙ is)
  | false ↦ λ is. rw is refl
]) refl

own_of : (l : Listing) → is_of l l.dir l.time ≡ true
own_of l = rw ((path_decides l.dir l.dir).1 refl, (time_decides l.time l.time).1 refl) refl

-- whatever page the memory keeps to now, what waits has the names of this one
pub may_settle : (page other : Page) (waits : Option Listing) → Agree (known_by_page page) (knowledge_of (kept_by other waits)) → MaySettle page waits
may_settle page other None agree = tt
may_settle page other (Some l) agree = λ told is x.
    same_in l.names told (agree l.dir l.time (has_in told) (has_in l.names) (rw is refl) (rw (own_of l) refl)) x

-- where the page tells nothing
pub settle_untold : (page : Page) (waits : Option Listing) → ((dir : Names) (time : FileTime) → page dir time ≡ None) → MaySettle page waits
settle_untold page None quiet = tt
settle_untold page (Some l) quiet = λ told is x. let e : None ≡ Some told = sym (quiet l.dir l.time) ∙ is in absurd cc
