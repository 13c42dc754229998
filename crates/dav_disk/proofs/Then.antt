-- An edit and then a handle that is put or placed are the edit still.
use Rattle.std.proofs.Common.{◌≡◌, ◌≤◌, ◌<◌, ◌==◌, ◌+◌, ◌⊎◌, ℕ, List, Bool, true, false, cond, length, take, Option, None, Some, Result, Ok, Err, IsErrOf, IfOk, IfErr, OnErr, inl, inr, refl, sym, ap, ◌∙◌, arith}
use Rattle.std.specs.Option.{option_map, is_none}
use Rattle.std.proofs.lemmas.List.{take_all}
use Rattle.dav_core.specs.declared.handle.DiskError.{DiskError}
use Rattle.dav_core.specs.declared.handle.DiskError.TheVariants.{NotFound, Exists, NotDir, IsDir, NotEmpty, Failed, NoMemory}
use Rattle.dav_core.specs.World.{World, OpenFile, Holds, SameBesidesOpens, AreGiven, put, bytes_of}
use Rattle.dav_core.specs.Disk.{with_opens, placed}
use Rattle.dav_core.specs.Edits.{Edit, fills, Edited, EditedBy, SameOpens}
use Rattle.dav_core.specs.Writing.{Writes, WrittenIn, WroteIn, MayRefuseWrite, can_write, appends, written, write_place}
use Rattle.dav_core.proofs.UnchangedLemmas.{same_besides, same_besides_then}
use Rattle.dav_disk.specs.Calls.{Known, state_of, lengths, with_place}
use Rattle.dav_disk.specs.Making.{MakesAt, WritesAt, writing, writing_at, is_spent, edited, edited_by}
use Rattle.dav_disk.proofs.Edited.{edited_is, edited_opens}
use Rattle.dav_disk.specs.Failing.{UnlessFault}
use Rattle.dav_disk.proofs.Makes.{Noted, is_counted, unless_fault}
use Rattle.dav_core.proofs.EditsLemmas.{edit_then}
use Rattle.std.proofs.lemmas.Bool.{both_ways}

abbrev Given : World → Type 0
Given w = AreGiven w.tree w.files w.opens w.greatest w.latest

pub edited_then : (edit : Option Edit) (v m w : World) → EditedBy edit v m → SameBesidesOpens m w → EditedBy edit v w
edited_then None v m w e s = same_besides_then v m w e s
edited_then (Some edit) v m w e s = edit_then edit v m w e s

at_put : (b : Bool) (x : Option OpenFile) (v : World) (h number : ℕ) → (option_map (λ o. o.number) x ≡ Some number → Holds v number) → option_map (λ o. o.number) (cond b x (v.opens h)) ≡ Some number → Holds v number
at_put true x v h number new e = new e
at_put false x v h number new e = inr (h, e)

-- one handle has something else open, or nothing
pub put_besides : (v : World) (k : ℕ) (x : Option OpenFile) → ((number : ℕ) → option_map (λ o. o.number) x ≡ Some number → Holds v number) → SameBesidesOpens v (with_opens v (put k x v.opens))
put_besides v k x new = record {
  tree = refl;
  files = λ number held. (held_by number held, refl);
  greatest = refl;
  latest = refl;
  script = refl;
}
  where
    held_by : (number : ℕ) → Holds (with_opens v (put k x v.opens)) number → Holds v number
    held_by number (inl row) = inl row
    held_by number (inr (h, at)) = at_put (h == k) x v h number (new number) at

-- ---- a write

wrote : (k n : Known) (h : ℕ) (from : List ℕ) (count : ℕ) → Given k.world → 0 < length from → WritesAt k h from (Ok count) n → WroteIn (appends (k.live h)) h from count k.world n.world
wrote k n h from count given some (all, o, at, can, m, made, e) =
    let place : ℕ = write_place (appends (k.live h)) k.world o in
    let edit : Edit = fills o.number (written place from (bytes_of k.world o.number)) in
    let opens = edited_opens (Some edit) k.world m made in
    let there : m.opens h ≡ Some o = ap (λ (t : ℕ → Option OpenFile). t h) opens.opens ∙ at in
    let w : World = placed m h o (place + count) in
    let beside : SameBesidesOpens m w = put_besides m h (Some (record o { place = place + count })) (λ number f. inr (h, ap (option_map (λ (o : OpenFile). o.number)) there ∙ f)) in
    let edited_to : Edited edit k.world w = edit_then edit k.world m w (edited_is edit k.world m given made) beside in
    let whole : take count from ≡ from = ap (λ c. take c from) all ∙ take_all (length from) from (omega arith) in
    let world : n.world ≡ w = ap (λ (n : Known). n.world) e in (
      o,
      at,
      omega arith,
      omega arith,
      rw (world, whole) edited_to,
      ap (λ (w : World). w.opens) world ∙ ap (λ (t : ℕ → Option OpenFile). put h (Some (record o { place = place + count })) t) opens.opens,
      ap (λ (w : World). w.listings) world ∙ opens.listings,
    )

left_so : (k n : Known) → n ≡ k → SameBesidesOpens k.world n.world × SameOpens k.world n.world
left_so k n e = rw e (same_besides k.world, record { opens = refl; listings = refl })

written_in : (k n : Known) (h : ℕ) (from : List ℕ) (result : Result ℕ DiskError) → Given k.world → 0 < length from → WritesAt k h from result n
    → WrittenIn (k.live h) h from result k.world n.world
written_in k n h from (Ok count) given some w = (w.3, wrote k n h from count given some w)
written_in k n h from (Err Failed) given some w = inl (left_so k n w.0)
written_in k n h from (Err NoMemory) given some w = inl (left_so k n w.0)
written_in k n h from (Err IsDir) given some w = let l = left_so k n w.0 in (w.1, l.0, l.1)
written_in k n h from (Err NotFound) given some w = absurd w
written_in k n h from (Err Exists) given some w = absurd w
written_in k n h from (Err NotDir) given some w = absurd w
written_in k n h from (Err NotEmpty) given some w = absurd w

write_refuses : (k n : Known) (h : ℕ) (from : List ℕ) (result : Result ℕ DiskError) → WritesAt k h from result n → IfErr result MayRefuseWrite
write_refuses k n h from (Ok count) w = tt
write_refuses k n h from (Err Failed) w = tt
write_refuses k n h from (Err NoMemory) w = tt
write_refuses k n h from (Err IsDir) w = tt
write_refuses k n h from (Err NotFound) w = absurd w
write_refuses k n h from (Err Exists) w = absurd w
write_refuses k n h from (Err NotDir) w = absurd w
write_refuses k n h from (Err NotEmpty) w = absurd w

write_refused : (k n : Known) (h : ℕ) (from : List ℕ) (result : Result ℕ DiskError) → WritesAt k h from result n → can_write (k.live h) ≡ true
    → OnErr result ((result ≡ Err Failed) ⊎ (result ≡ Err NoMemory))
write_refused k n h from (Ok count) w can = tt
write_refused k n h from (Err Failed) w can = inl refl
write_refused k n h from (Err NoMemory) w can = inr refl
write_refused k n h from (Err IsDir) w can = absurd (let e : true ≡ false = sym can ∙ w.1 in cc)
write_refused k n h from (Err NotFound) w can = absurd w
write_refused k n h from (Err Exists) w can = absurd w
write_refused k n h from (Err NotDir) w can = absurd w
write_refused k n h from (Err NotEmpty) w can = absurd w

write_within : (k n : Known) (h : ℕ) (from : List ℕ) (result : Result ℕ DiskError) → 0 < length from → WritesAt k h from result n → IfOk result (λ n. (0 < n) × (n ≤ length from))
write_within k n h from (Ok count) some w = let e = w.0 in (omega arith, omega arith)
write_within k n h from (Err e) some w = tt

-- what stays beside the bytes and the place
record StaysLive (k n : Known) : Type 0 where
  live : n.live ≡ k.live
  listings : n.world.listings ≡ k.world.listings

same_live : (k n : Known) → n ≡ k → StaysLive k n
same_live k n e = record { live = ap (λ (n : Known). n.live) e; listings = ap (λ (n : Known). n.world.listings) e }

write_stays : (k n : Known) (h : ℕ) (from : List ℕ) (result : Result ℕ DiskError) → WritesAt k h from result n → StaysLive k n
write_stays k n h from (Ok count) (all, o, at, can, m, made, e) = record {
  live = ap (λ (n : Known). n.live) e;
  listings = ap (λ (n : Known). n.world.listings) e ∙ (edited_opens (Some (fills o.number (written (write_place (appends (k.live h)) k.world o) from (bytes_of k.world o.number)))) k.world m made).listings;
}
write_stays k n h from (Err Failed) w = same_live k n w.0
write_stays k n h from (Err NoMemory) w = same_live k n w.0
write_stays k n h from (Err IsDir) w = same_live k n w.0
write_stays k n h from (Err NotFound) w = absurd w
write_stays k n h from (Err Exists) w = absurd w
write_stays k n h from (Err NotDir) w = absurd w
write_stays k n h from (Err NotEmpty) w = absurd w

pub writes_done : (k n : Known) (f a : ℕ) (x : Bool) (g b : ℕ) (y : Bool) (h : ℕ) (from : List ℕ) (result : Result ℕ DiskError) → Noted result f a x g b y → Given k.world → 0 < length from
    → WritesAt k h from result n → Writes (state_of k f a x) h from result (state_of n g b y)
writes_done k n f a x g b y h from result c given some w =
    let s = write_stays k n h from result w in
    record {
      asks = record { counted = is_counted result k n f a x g b y c; listers = ap lengths s.listings };
      within = write_within k n h from result some w;
      only = write_refuses k n h from result w;
      refused = write_refused k n h from result w;
      live = s.live;
      told = written_in k n h from result given some w;
    }

pub write_fails_done : (k : Known) (f a : ℕ) (x : Bool) (g b : ℕ) (y : Bool) (h : ℕ) (from : List ℕ) → Noted {T = ℕ} (Err Failed) f a x g b y → Writes (state_of k f a x) h from (Err Failed) (state_of k g b y)
write_fails_done k f a x g b y h from c = record {
  asks = record { counted = is_counted (Err Failed) k k f a x g b y c; listers = refl };
  within = tt;
  only = tt;
  refused = λ can. inl refl;
  live = refl;
  told = inl (left_so k k refl);
}

-- a write fails by itself where it needs a tick that isn't left
pub write_fails : (k n : Known) (h : ℕ) (from : List ℕ) (result : Result ℕ DiskError) → WritesAt k h from result n → IsErrOf result Failed → is_spent (writing k h from) k.world ≡ true
write_fails k n h from (Ok count) w f = cc
write_fails k n h from (Err Failed) w f = w.2
write_fails k n h from (Err NoMemory) w f = cc
write_fails k n h from (Err IsDir) w f = cc
write_fails k n h from (Err NotFound) w f = absurd w
write_fails k n h from (Err Exists) w f = absurd w
write_fails k n h from (Err NotDir) w f = absurd w
write_fails k n h from (Err NotEmpty) w f = absurd w

pub fails_write : (k n : Known) (h : ℕ) (from : List ℕ) (result : Result ℕ DiskError) → WritesAt k h from result n → is_spent (writing k h from) k.world ≡ true → IsErrOf result Failed
fails_write k n h from (Ok count) (all, o, at, can, m, made, e) spent =
    let edit : Edit = fills o.number (written (write_place (appends (k.live h)) k.world o) from (bytes_of k.world o.number)) in
    let judged : writing k h from ≡ Ok (Some edit) = ap (λ x. writing_at x (k.live h) k.world from) at ∙ ap (λ b. cond b (Ok (Some edit)) (Err IsDir)) can in
    absurd (both_ways (is_spent (writing k h from) k.world) (ap (λ a. is_spent a k.world) judged ∙ ap is_none made) spent)
fails_write k n h from (Err Failed) w spent = refl
fails_write k n h from (Err NoMemory) w spent = absurd (both_ways (is_spent (writing k h from) k.world) w.2 spent)
fails_write k n h from (Err IsDir) w spent = absurd (both_ways (is_spent (writing k h from) k.world) (ap (λ a. is_spent a k.world) w.2) spent)
fails_write k n h from (Err NotFound) w spent = absurd w
fails_write k n h from (Err Exists) w spent = absurd w
fails_write k n h from (Err NotDir) w spent = absurd w
fails_write k n h from (Err NotEmpty) w spent = absurd w

-- ---- what a write answers

-- what a write has found: what the handle has open, and that it may be written
pub record Writable (k : Known) (h : ℕ) (o : OpenFile) (place : ℕ) : Type 0 where
  pub opened : k.world.opens h ≡ Some o
  pub can : can_write (k.live h) ≡ true
  pub at : place ≡ write_place (appends (k.live h)) k.world o

abbrev pub write_edit : Known → OpenFile → ℕ → List ℕ → Edit
write_edit k o place from = fills o.number (written place from (bytes_of k.world o.number))

judged_so : (k : Known) (h : ℕ) (o : OpenFile) (place : ℕ) (from : List ℕ) → Writable k h o place → writing k h from ≡ Ok (Some (write_edit k o place from))
judged_so k h o place from w =
    ap (λ x. writing_at x (k.live h) k.world from) w.opened
    ∙ ap (λ b. cond b (Ok (Some (write_edit k o (write_place (appends (k.live h)) k.world o) from))) (Err IsDir)) w.can
    ∙ ap (λ p. Ok (Some (write_edit k o p from))) (sym w.at)

pub writes_ok : (k n t : Known) (h : ℕ) (from : List ℕ) (o : OpenFile) (place end : ℕ) → Writable k h o place → MakesAt (Ok (Some (write_edit k o place from))) k (Ok tt) n → end ≡ place + length from
    → t ≡ with_place n h o end → WritesAt k h from (Ok (length from)) t
writes_ok k n t h from o place end w (edit, is, made, rest) e placed =
    let some : Some (write_edit k o place from) ≡ edit = cc in (
      refl,
      o,
      w.opened,
      w.can,
      n.world,
      ap (λ p. edited (write_edit k o p from) k.world) (sym w.at) ∙ ap (λ x. edited_by x k.world) some ∙ made,
      placed ∙ ap (λ n. with_place n h o end) rest ∙ ap (λ p. with_place (record k { world = n.world }) h o p) (e ∙ ap (λ p. p + length from) w.at),
    )

pub writes_err : (k n : Known) (h : ℕ) (from : List ℕ) (o : OpenFile) (place : ℕ) (e : DiskError) → Writable k h o place → MakesAt (Ok (Some (write_edit k o place from))) k (Err e) n → WritesAt k h from (Err e) n
writes_err k n h from o place Failed w (same, spent) = (same, w.can, ap (λ a. is_spent a k.world) (judged_so k h o place from w) ∙ spent)
writes_err k n h from o place NoMemory w (same, left) = (same, w.can, ap (λ a. is_spent a k.world) (judged_so k h o place from w) ∙ left)
writes_err k n h from o place NotFound w (same, clash) = absurd cc
writes_err k n h from o place Exists w (same, clash) = absurd cc
writes_err k n h from o place NotDir w (same, clash) = absurd cc
writes_err k n h from o place IsDir w (same, clash) = absurd cc
writes_err k n h from o place NotEmpty w (same, clash) = absurd cc

pub writes_not : (k : Known) (h : ℕ) (from : List ℕ) (o : OpenFile) → k.world.opens h ≡ Some o → can_write (k.live h) ≡ false → WritesAt k h from (Err IsDir) k
writes_not k h from o at can = (
  refl,
  can,
  ap (λ x. writing_at x (k.live h) k.world from) at
      ∙ ap (λ b. cond b (Ok (Some (write_edit k o (write_place (appends (k.live h)) k.world o) from))) (Err IsDir)) can,
)

-- a write that is refused leaves the world
pub write_leaves : (k n : Known) (h : ℕ) (from : List ℕ) (result : Result ℕ DiskError) → WritesAt k h from result n → OnErr result (n.world ≡ k.world)
write_leaves k n h from (Ok count) w = tt
write_leaves k n h from (Err Failed) w = ap (λ (n : Known). n.world) w.0
write_leaves k n h from (Err NoMemory) w = ap (λ (n : Known). n.world) w.0
write_leaves k n h from (Err IsDir) w = ap (λ (n : Known). n.world) w.0
write_leaves k n h from (Err NotFound) w = absurd w
write_leaves k n h from (Err Exists) w = absurd w
write_leaves k n h from (Err NotDir) w = absurd w
write_leaves k n h from (Err NotEmpty) w = absurd w

write_same : (k n : Known) (h : ℕ) (from : List ℕ) (result : Result ℕ DiskError) → WritesAt k h from result n → IsErrOf result Failed → n ≡ k
write_same k n h from (Ok count) w f = cc
write_same k n h from (Err Failed) w f = w.0
write_same k n h from (Err NoMemory) w f = cc
write_same k n h from (Err IsDir) w f = cc
write_same k n h from (Err NotFound) w f = absurd w
write_same k n h from (Err Exists) w f = absurd w
write_same k n h from (Err NotDir) w f = absurd w
write_same k n h from (Err NotEmpty) w f = absurd w

-- what a write makes
pub write_unless : (k n : Known) (h : ℕ) (from : List ℕ) (result : Result ℕ DiskError) → WritesAt k h from result n → UnlessFault result k n (WritesAt k h from result n)
write_unless k n h from result w = unless_fault result k n (WritesAt k h from result n) w (write_same k n h from result w)
