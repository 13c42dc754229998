-- What want of memory leaves of a handler's store.
use Rattle.std.proofs.Common.{◌≡◌, ◌∙◌, inl, inr, ℕ, Option, None, Some, Result, Ok, Err, refl, sym, ap, subst}
use Rattle.std.specs.Prelude.{OnErr}
use Rattle.dav_io.specs.declared.failure.NoMemory.{NoMemory}
use Rattle.dav_core.specs.Disk.{DiskState}
use Rattle.dav_core.specs.Unchanged.{Keeps}
use Rattle.dav_core.proofs.UnchangedLemmas.{keeps_same}
use Rattle.dav_model.specs.declared.target.Target.{Target}
use Rattle.dav_model.specs.declared.target.Target.TheVariants.{At, Methods, Refused, Writes}
use Rattle.dav_model.specs.Conditions.{Fields}
use Rattle.dav_store.specs.declared.body_reader.BodyReader.{Ghosts as ReaderGhosts}
use Rattle.dav_store.specs.Frames.{KeepsOpen}
use Rattle.dav_methods.specs.Lines.{Given as GivenBy}
use Rattle.dav_get.specs.declared.body.GetBody.{GetBody}
use Rattle.dav_get.specs.Lives.{OpenOnlyHeld}
use Rattle.dav_get.specs.Table.{Given}
use Rattle.dav_config.specs.declared.asked.Content.{Content}
use Rattle.dav_config.specs.declared.asked.Content.TheVariants.{Behind}
use Rattle.dav_config.specs.declared.finding.Found.{Found}
use Rattle.dav_config.specs.Finding.{EndsFound, FindsFor, IsFoundFor, IsFoundOf, Serves, Undone, brought, loan_in}
use Rattle.dav_config.specs.Handling.{Asking, IsWritten, Served, Stays}
use Rattle.dav_config.specs.Owning.{StarvesAll, StarvesOver, sought_of}
use Rattle.dav_config.specs.Writing.{Brought, KeepsUnless, asks_to_write, behind}
use Rattle.dav_config.proofs.Gated.{gated_parted}
use Rattle.dav_config.proofs.Giving.{undone}
use Rattle.dav_config.proofs.Owned.{is_behind}
use Rattle.dav_config.proofs.Staying.{kept_unless, open_unless}

none_ended : {F : Type 0} (handle : F → ℕ) (s t : DiskState) (body : Option (GetBody F)) → body ≡ None → EndsFound handle s body t → t ≡ s
none_ended handle s t body none ends = subst (λ x. EndsFound handle s x t) none ends

module _ {S C F L E : Type 0} (served : Served S C F L E) (asking : Asking C) where
  abbrev state : S → DiskState
  state = served.view.state

  same_kept : (s t : S) → state t ≡ state s → KeepsUnless (asks_to_write asking.head) (state s) (state t)
  same_kept s t same = kept_unless (asks_to_write asking.head) (state s) (state t) (subst (Keeps (state s)) (sym same) (keeps_same (state s)))

  -- of a GET or HEAD
  read_kept : (fields : Fields) (s m t : S) (given : Given F) (result : Result (Found F) NoMemory) → OpenOnlyHeld served.view s given m → IsFoundFor fields given result
      → Undone served result m t → Keeps (state s) (state t)
  read_kept fields s m t (Ok given) (Ok found) life is ends =
      undone served.view.file.handle (state s) (state m) (state t) given.1.file life.1 (subst (λ x. EndsFound served.view.file.handle (state m) x (state t)) is.1 ends)
  read_kept fields s m t (Ok given) (Err x) life is ends = absurd is
  read_kept fields s m t (Err e) (Ok found) life is ends =
      subst (Keeps (state s)) (sym (none_ended served.view.file.handle (state m) (state t) found.body is.1.body ends)) life
  read_kept fields s m t (Err e) (Err x) life is same = subst (λ y. Keeps (state s) (state y)) (sym same) life

  -- of a method that writes
  write_kept : (fields : Fields) (s m t : S) (given : GivenBy) (result : Result (Found F) NoMemory) → KeepsOpen (state s) (state m) → IsFoundOf fields given result
      → Undone served result m t → KeepsOpen (state s) (state t)
  write_kept fields s m t (Ok outcome) (Ok found) keeps is ends =
      subst (KeepsOpen (state s)) (sym (none_ended served.view.file.handle (state m) (state t) found.body is.1 ends)) keeps
  write_kept fields s m t (Ok outcome) (Err x) keeps is ends = absurd is
  write_kept fields s m t (Err e) (Ok found) keeps is ends =
      subst (KeepsOpen (state s)) (sym (none_ended served.view.file.handle (state m) (state t) found.body is.1.body ends)) keeps
  write_kept fields s m t (Err e) (Err x) keeps is same = subst (λ y. KeepsOpen (state s) (state y)) (sym same) keeps

  -- of the gates
  alone_undone : (m t : S) (result : Result (Found F) NoMemory) → ((found : Found F) → result ≡ Ok found → found.body ≡ None) → Undone served result m t → state t ≡ state m
  alone_undone m t (Ok found) none ends = none_ended served.view.file.handle (state m) (state t) found.body (none found refl) ends
  alone_undone m t (Err x) none same = ap state same

  finds_kept : (target : Target) → IsWritten target asking.head → (b n : Brought) (s m t : S) (result : Result (Found F) NoMemory)
      → FindsFor served target (sought_of asking) b s result m n → Undone served result m t → KeepsUnless (asks_to_write asking.head) (state s) (state t)
  finds_kept (Refused status close) parted b n s m t result finds ends =
      same_kept s t (alone_undone m t result (λ found is. (finds.found found is).body) ends ∙ ap state finds.store)
  finds_kept Methods parted b n s m t result finds ends =
      same_kept s t (alone_undone m t result (λ found is. (finds.found found is).body) ends ∙ ap state finds.store)
  finds_kept (At method path) parted b n s m t result (at, e, set) ends =
      kept_unless (asks_to_write asking.head) (state s) (state t)
      (subst (λ x. Keeps x (state t)) set.state (read_kept asking.head.headers (served.with_now s asking.now) m t at.given result at.gives.life at.found ends))
  finds_kept (Writes method path) parted b n s m t result (w, set) ends =
      open_unless (asks_to_write asking.head) (state s) (state t) parted.1
      (subst (λ x. KeepsOpen x (state t)) set.state (write_kept asking.head.headers (served.with_now s asking.now) m t w.given result w.keeps w.found ends))

  starved_kept : (b n : Brought) (s m t : S) (result : Result (Found F) NoMemory) → Serves served (sought_of asking) b s result m n → Undone served result m t
      → KeepsUnless (asks_to_write asking.head) (state s) (state t)
  starved_kept b n s m t (Ok found) by ends =
      finds_kept by.target (gated_parted (sought_of asking) _ b by.between by.target by.gated) by.between n s m t (Ok found) by.finds ends
  starved_kept b n s m t (Err x) (inl same) ends = same_kept s t (ap state (ends ∙ same))
  starved_kept b n s m t (Err x) (inr by) ends =
      finds_kept by.target (gated_parted (sought_of asking) _ b by.between by.target by.gated) by.between n s m t (Err x) by.finds ends

  over_stays : (b n : Brought) (old new : Option S) → StarvesOver served (sought_of asking) b old new n → Stays served asking old new
  over_stays b n None None starves = tt
  over_stays b n None (Some t) starves = absurd starves
  over_stays b n (Some s) None starves = absurd starves
  over_stays b n (Some s) (Some t) starves =
      (starved_kept b n s starves.0.between t starves.0.result starves.0.serves starves.0.undone, starves.1)

  -- the same where an answer was refused
  pub stays_where : {A : Type 0} (result : Result A NoMemory) (b n : Brought) (old new : Option S) → OnErr result (StarvesOver served (sought_of asking) b old new n)
      → OnErr result (Stays served asking old new)
  stays_where (Ok r) b n old new starves = starves
  stays_where (Err e) b n old new starves = over_stays b n old new starves

  -- and the reader was let go of
  pub starved_all : {A B : Type 0} (result : Result A NoMemory) (reader : ReaderGhosts B) (old new : Option S) (body : B) (content : Content B)
      → loan_in reader.loan content ≡ loan_in reader.loan (Behind body)
      → OnErr result (StarvesOver served (sought_of asking) (behind (reader.state body)) old new (brought reader.state content))
      → OnErr result (StarvesAll served reader asking old body new)
  starved_all (Ok r) reader old new body content same starves = starves
  starved_all (Err e) reader old new body content same starves =
      let left = is_behind served reader asking body content same in
      (left.0, left.1, subst (StarvesOver served (sought_of asking) (behind (reader.state body)) old new) left.2 starves)

  -- Nothing was asked yet.
  pub unasked_all : {B : Type 0} (reader : ReaderGhosts B) (old : Option S) (body : B) → NoMemory → StarvesAll served reader asking old body old
  unasked_all reader None body e = (body, refl, tt)
  unasked_all reader (Some s) body e = (body, refl, (record { result = Err e; between = s; serves = inl refl; undone = refl }, refl))
