-- Reads in steps.
use Rattle.std.specs.Prelude.{◌≡◌, ◌≤◌, ◌<◌, ◌+◌, ℕ, List, Bool, true, false, OnErr, length, take, drop, min, Option, None, Some, IfSome, Result, Ok, Err, refl}
use Rattle.std.proofs.Common.{sym, ap, subst, ◌∙◌, arith}
use Rattle.dav_io.specs.Counts.{Rose}
use Rattle.dav_io.specs.Told.{Both}
use Rattle.dav_core.specs.declared.error.FsError.{FsError}
use Rattle.dav_core.specs.declared.error.FsError.TheVariants.{GeneralFailure}
use Rattle.dav_core.specs.Disk.{DiskState, can_read}
use Rattle.dav_core.proofs.UnchangedLemmas.{but_then}
use Rattle.dav_store.specs.Files.{FileReads, IsFault, ReadsIn}
use Rattle.dav_store.specs.Standing.{Seen}
use Rattle.std.specs.Prelude.{[], ◌∷◌, cond, ◌&&◌, ◌==◌}
use Rattle.std.specs.Option.{option_map}
use Rattle.std.proofs.lemmas.Bool.Decides.{nat_tests}
use Rattle.dav_core.specs.Info.{Info}
use Rattle.dav_core.specs.Tree.{is_file}
use Rattle.dav_core.proofs.UnchangedLemmas.{keeps_but}
use Rattle.dav_store.specs.Files.{FileSays, rest_of}
use Rattle.dav_store.specs.Standing.{AgreesOpen, Standing}
use Rattle.dav_readcache.specs.declared.cached.Content.{Content}
use Rattle.dav_readcache.specs.declared.cached.Reading.{Reading}
use Rattle.dav_readcache.specs.Cached.{Copies, IsFresh, IsFreshFor, IsKnown, Stays, bytes_in, is_held, is_of, is_tag, pending_at, place_in, place_of, place_or, placed_at, seen_as, shown}
use Rattle.dav_io.proofs.Rising.{rose_before}

reads_as : (p q : Bool) (buffer : List ℕ) (result : Result ℕ FsError) (e f g : Seen) → (p ≡ true → q ≡ true) → f ≡ e → ReadsIn q buffer result f g → ReadsIn p buffer result e g
reads_as p q buffer (Ok n) e f g on same (within, copied, none, all, moved) =
    subst (λ x. ReadsIn p buffer (Ok n) x g) same (within, copied, none, λ is. all (on is), moved)
reads_as p q buffer (Err x) e f g on same row = row ∙ same

told_then : (p q : Bool) (buffer : List ℕ) (result : Result ℕ FsError) (a b c : Option Seen) → (p ≡ true → q ≡ true) → Both a b (λ f g. g ≡ f)
    → Both b c (ReadsIn q buffer result) → Both a c (ReadsIn p buffer result)
told_then p q buffer result None None None on same reads = tt
told_then p q buffer result None None (Some g) on same reads = absurd reads
told_then p q buffer result None (Some f) c on same reads = absurd same
told_then p q buffer result (Some e) None c on same reads = absurd same
told_then p q buffer result (Some e) (Some f) None on same reads = absurd reads
told_then p q buffer result (Some e) (Some f) (Some g) on same reads = reads_as p q buffer result e f g on same reads

refused_on : (s m t : DiskState) (result : Result ℕ FsError) → s.faults ≤ m.faults → OnErr result (IsFault m result t) → OnErr result (IsFault s result t)
refused_on s m t (Ok n) le refused = refused
refused_on s m t (Err e) le (is, rose) = (is, rose_before s.faults m.faults t.faults le rose)

-- A read behind a step that leaves what is shown is a read.
pub reads_then : (h : ℕ) (s m t : DiskState) (seen mid after : Option Seen) (buffer : List ℕ) (result : Result ℕ FsError)
    → Stays h s seen m mid → FileReads m h mid buffer result t after → FileReads s h seen buffer result t after
reads_then h s m t seen mid after buffer result stays reads = record {
  keeps = but_then h s m t stays.keeps reads.keeps;
  live = reads.live ∙ stays.live;
  refused = λ can. refused_on s m t result stays.keeps.counts (reads.refused (ap can_read stays.live ∙ can));
  within = reads.within;
  told = told_then s.whole m.whole buffer result seen mid after stays.keeps.whole stays.told reads.told;
}

-- ---- a file whose content isn't held, at its own place

plain_as : (r : Reading) (f : Seen) → r.content ≡ None → r.pending ≡ None → seen_as r f ≡ f
plain_as r f none here = ap (λ c. record { stands = shown c f.stands; place = place_of r.pending f.place }) none ∙ ap (λ p. record { stands = f.stands; place = place_of p f.place }) here

pub plain_seen : (r : Reading) (seen : Option Seen) → r.content ≡ None → r.pending ≡ None → option_map (seen_as r) seen ≡ seen
plain_seen r None none here = refl
plain_seen r (Some f) none here = ap (λ x. Some x) (plain_as r f none here)

-- A read of the store's file, which stands where it is read next.
pub reads_plain : (h k : ℕ) (s t : DiskState) (seen after : Option Seen) (r q : Reading) (buffer : List ℕ) (result : Result ℕ FsError)
    → k ≡ h → r.content ≡ None → r.pending ≡ None → q.content ≡ None → q.pending ≡ None → FileReads s k seen buffer result t after
    → FileReads s h (option_map (seen_as r) seen) buffer result t (option_map (seen_as q) after)
reads_plain h k s t seen after r q buffer result same none here gone there reads =
    subst (λ h. FileReads s h (option_map (seen_as r) seen) buffer result t (option_map (seen_as q) after)) same
    (subst (λ x. FileReads s k x buffer result t (option_map (seen_as q) after)) (sym (plain_seen r seen none here))
    (subst (λ x. FileReads s k seen buffer result t x) (sym (plain_seen q after gone there)) reads))

-- a read by an equal handle
pub reads_by_same : (h k : ℕ) (s t : DiskState) (seen after : Option Seen) (buffer : List ℕ) (result : Result ℕ FsError) → k ≡ h → FileReads s k seen buffer result t after
    → FileReads s h seen buffer result t after
reads_by_same h k s t seen after buffer result same reads = subst (λ h. FileReads s h seen buffer result t after) same reads

-- ---- what metadata says

same_told : (a b : Option Seen) → b ≡ a → Both a b (λ f g. g ≡ f)
same_told None None e = tt
same_told None (Some g) e = cc
same_told (Some f) None e = cc
same_told (Some f) (Some g) e = cc

shown_as : (r q : Reading) (x : Option Seen) → ((f : Seen) → x ≡ Some f → seen_as q f ≡ seen_as r f) → Both (option_map (seen_as r) x) (option_map (seen_as q) x) (λ f g. g ≡ f)
shown_as r q None same = tt
shown_as r q (Some f) same = same f refl

told_at : (a b : Option Seen) (r q : Reading) → b ≡ a → ((f : Seen) → a ≡ Some f → seen_as q f ≡ seen_as r f) → Both (option_map (seen_as r) a) (option_map (seen_as q) b) (λ f g. g ≡ f)
told_at a b r q e same = subst (λ x. Both (option_map (seen_as r) a) (option_map (seen_as q) x) (λ f g. g ≡ f)) (sym e) (shown_as r q a same)

some_is : (f g : Seen) → ◌≡◌ {A = Option Seen} (Some f) (Some g) → f ≡ g
some_is f g e = cc

-- What metadata says of a file leaves it as it is.
says_stays : (h : ℕ) (s t : DiskState) (seen after : Option Seen) (said : Result Info FsError) (r q : Reading) → FileSays s h seen said t after
    → ((f : Seen) → seen ≡ Some f → seen_as q f ≡ seen_as r f) → Stays h s (option_map (seen_as r) seen) t (option_map (seen_as q) after)
says_stays h s t seen after said r q says same = record {
  keeps = keeps_but h s t says.keeps;
  live = says.keeps.live h;
  told = told_at seen after r q says.same same;
}

agrees_of : (info : Info) (seen : Option Seen) (f : Seen) → seen ≡ Some f → IfSome seen (λ f. AgreesOpen info f.stands) → AgreesOpen info f.stands
agrees_of info None f e all = cc
agrees_of info (Some g) f e all = subst (λ (x : Seen). AgreesOpen info x.stands) (some_is g f e) all

-- What is held is of the file exactly where it is of its metadata.
kind_off : (b : Bool) (x y : Bool) → b ≡ false → (b && x) ≡ (b && y)
kind_off true x y e = cc
kind_off false x y e = refl

held_by : (regular : Bool) (c : Content) (info : Info) (there : Standing) → is_file there.kind ≡ regular → AgreesOpen info there → is_of c info.kind info.tag ≡ is_of c there.kind there.tag
held_by true c info there is agrees = let all = agrees.file is in ap (λ k. is_of c k info.tag) agrees.kind ∙ ap (λ x. is_of c there.kind x) all.tag
held_by false c info there is agrees = ap (λ k. is_of c k info.tag) agrees.kind ∙ kind_off (is_file there.kind) (is_tag c.tag info.tag) (is_tag c.tag there.tag) is

dropped : (content : Option Content) (info : Info) (f : Seen) → is_held content info ≡ false → AgreesOpen info f.stands → f.stands ≡ shown content f.stands
dropped None info f other agrees = refl
dropped (Some c) info f other agrees = sym (ap (λ b. cond b (record f.stands { bytes = c.bytes }) f.stands) (sym (held_by (is_file f.stands.kind) c info f.stands refl agrees) ∙ other))

held_shown : (content : Option Content) (info : Info) (f : Seen) → is_held content info ≡ true → AgreesOpen info f.stands → shown content f.stands ≡ record f.stands { bytes = bytes_in content }
held_shown None info f same agrees = cc
held_shown (Some c) info f same agrees = ap (λ b. cond b (record f.stands { bytes = c.bytes }) f.stands) (sym (held_by (is_file f.stands.kind) c info f.stands refl agrees) ∙ same)

err_is : (a b : FsError) → ◌≡◌ {A = Result Bool FsError} (Err a) (Err b) → a ≡ b
err_is a b e = cc

err_ok : {P : Type 0} (a : FsError) (b : Bool) → ◌≡◌ {A = Result Bool FsError} (Err a) (Ok b) → P
err_ok a b e = cc

ok_is : (a b : Bool) → ◌≡◌ {A = Result Bool FsError} (Ok a) (Ok b) → a ≡ b
ok_is a b e = cc

fresh_err : {P : Type 0} (b : Bool) (r q : Reading) (result : Result Bool FsError) (e : FsError) → result ≡ Err e → IsFreshFor b r result q → P
fresh_err true r q result e is (answer, same) = err_ok e true (sym is ∙ answer)
fresh_err false r q result e is (answer, same) = err_ok e false (sym is ∙ answer)

info_err : (a b : FsError) → ◌≡◌ {A = Result Info FsError} (Err a) (Err b) → a ≡ b
info_err a b e = cc

fault_of : (x : FsError) (s t : DiskState) → IsFault {T = Info} s (Err x) t → (x ≡ GeneralFailure) × Rose s.faults t.faults
fault_of x s t (is, rose) = (info_err x GeneralFailure is, rose)

err_as : (a b : FsError) → a ≡ b → ◌≡◌ {A = Result ℕ FsError} (Err a) (Err b)
err_as a b e = cc

true_false : true ≡ false → ⊥
true_false e = cc

-- A refused look at the file's metadata is a refused read.
pub says_refused : (h : ℕ) (s t : DiskState) (seen after : Option Seen) (said : Result Info FsError) (e : FsError) (r q : Reading) (buffer : List ℕ) (result : Result Bool FsError) → result ≡ Err e
    → FileSays s h seen said t after → IsFresh said r result q → FileReads s h (option_map (seen_as r) seen) buffer (Err e) t (option_map (seen_as q) after)
says_refused h s t seen after (Ok info) e r q buffer result is says fresh = fresh_err (is_held r.content info) r q result e is fresh
says_refused h s t seen after (Err x) e r q buffer result is says (answer, same) =
    let stays = says_stays h s t seen after (Err x) r q says (λ f at. ap (λ (y : Reading). seen_as y f) same) in
    let (one, rose) = fault_of x s t says.refused in
    record {
      keeps = stays.keeps;
      live = stays.live;
      refused = λ can. (err_as e GeneralFailure (sym (err_is x e (sym answer ∙ is)) ∙ one), rose);
      within = tt;
      told = stays.told;
    }

drops : (b : Bool) (info : Info) (seen : Option Seen) (r q : Reading) (result : Result Bool FsError) → result ≡ Ok false → is_held r.content info ≡ b → IsFreshFor b r result q
    → IfSome seen (λ f. AgreesOpen info f.stands) → (q.content ≡ None) × (q.at ≡ r.at) × ((f : Seen) → seen ≡ Some f → seen_as q f ≡ seen_as r f)
drops true info seen r q result is held (answer, same) agrees = absurd (true_false (ok_is true false (sym answer ∙ is)))
drops false info seen r q result is held (answer, same) agrees = (
  ap (λ (y : Reading). y.content) same,
  ap (λ (y : Reading). y.at) same,
  λ f at. ap (λ (y : Reading). seen_as y f) same ∙ ap (λ x. record { stands = x; place = place_of r.pending f.place }) (dropped r.content info f held (agrees_of info seen f at agrees)),
)

-- A content that isn't the file's any more is dropped, and the file is shown as before.
pub says_dropped : (h : ℕ) (s t : DiskState) (seen after : Option Seen) (said : Result Info FsError) (r q : Reading) (result : Result Bool FsError) → result ≡ Ok false
    → FileSays s h seen said t after → IsFresh said r result q → Stays h s (option_map (seen_as r) seen) t (option_map (seen_as q) after) × (q.content ≡ None) × (q.at ≡ r.at)
says_dropped h s t seen after (Err e) r q result is says (answer, same) = err_ok e false (sym answer ∙ is)
says_dropped h s t seen after (Ok info) r q result is says fresh =
    let (none, at, shows) = drops (is_held r.content info) info seen r q result is refl fresh says.told in
    (says_stays h s t seen after (Ok info) r q says shows, none, at)

holds : (b : Bool) (info : Info) (seen : Option Seen) (r q : Reading) (result : Result Bool FsError) → result ≡ Ok true → is_held r.content info ≡ b → IsFreshFor b r result q
    → IfSome seen (λ f. AgreesOpen info f.stands) → (q ≡ r) × ((f : Seen) → seen ≡ Some f → shown r.content f.stands ≡ record f.stands { bytes = bytes_in r.content })
holds false info seen r q result is held (answer, same) agrees = absurd (true_false (sym (ok_is false true (sym answer ∙ is))))
holds true info seen r q result is held (answer, same) agrees = (same, λ f at. held_shown r.content info f held (agrees_of info seen f at agrees))

-- the place of what is shown is the place from which it is copied
place_shown : (pending at : Option ℕ) (place here : ℕ) → place_or pending at ≡ Some place → ((a : ℕ) → at ≡ Some a → here ≡ a) → place_of pending here ≡ place
place_shown None at place here is known = known place is
place_shown (Some p) at place here is known = (let e : Some p ≡ Some place = is in cc)

placed_when : (b : Bool) (a place here : ℕ) → (a == place) ≡ b → here ≡ a → place_of (cond b None (Some place)) here ≡ place
placed_when true a place here is e = e ∙ grind (arith, nat_tests)
placed_when false a place here is e = refl

pub place_placed : (at : Option ℕ) (place here : ℕ) → ((a : ℕ) → at ≡ Some a → here ≡ a) → place_of (pending_at at place) here ≡ place
place_placed None place here known = refl
place_placed (Some a) place here known = placed_when (a == place) a place here refl (known a refl)

none_left : (rest buffer : List ℕ) (n : ℕ) → 0 < length buffer → n ≡ min (length buffer) (length rest) → n ≡ 0 → rest ≡ []
none_left [] buffer n some count none = refl
none_left (x ∷ rest) buffer n some count none = absurd (omega (arith, some, count, none))

copied_in : (whole : Bool) (buffer : List ℕ) (n place : ℕ) (r : Reading) (f : Seen) (c : List ℕ) → shown r.content f.stands ≡ record f.stands { bytes = c } → place_of r.pending f.place ≡ place
    → place_of (pending_at r.at (place + n)) f.place ≡ place + n → 0 < length buffer → n ≡ min (length buffer) (length (drop place c)) → take n buffer ≡ take n (drop place c)
    → ReadsIn whole buffer (Ok n) (seen_as r f) (seen_as (placed_at (place + n) r) f)
copied_in whole buffer n place r f c shows at next some count copied =
    let rest : rest_of (seen_as r f) ≡ drop place c = ap (λ (x : Standing). drop (place_of r.pending f.place) x.bytes) shows ∙ ap (λ p. drop p c) at in (
      rw rest (omega (arith, count)),
      rw rest copied,
      λ e. rest ∙ none_left (drop place c) buffer n some count e,
      λ w. rw rest count,
      ap (λ p. record { stands = shown r.content f.stands; place = p }) (next ∙ ap (λ p. p + n) (sym at)),
    )

copied_told : (whole : Bool) (buffer : List ℕ) (n place : ℕ) (r : Reading) (c : List ℕ) (seen : Option Seen) → ((f : Seen) → seen ≡ Some f → shown r.content f.stands ≡ record f.stands { bytes = c })
    → ((a : ℕ) (f : Seen) → r.at ≡ Some a → seen ≡ Some f → f.place ≡ a) → place_in r ≡ Some place → 0 < length buffer → n ≡ min (length buffer) (length (drop place c)) → take n buffer ≡ take n (drop place c)
    → Both (option_map (seen_as r) seen) (option_map (seen_as (placed_at (place + n) r)) seen) (ReadsIn whole buffer (Ok n))
copied_told whole buffer n place r c None shows known at some count copied = tt
copied_told whole buffer n place r c (Some f) shows known at some count copied =
    copied_in whole buffer n place r f c (shows f refl) (place_shown r.pending r.at place f.place at (λ a is. known a f is refl)) (place_placed r.at (place + n) f.place (λ a is. known a f is refl)) some count copied

-- Bytes of a content that is held are those that are shown.
pub says_held : (h : ℕ) (s t : DiskState) (seen after : Option Seen) (said : Result Info FsError) (r q z : Reading) (buffer : List ℕ) (n : ℕ) (result : Result Bool FsError) → result ≡ Ok true
    → FileSays s h seen said t after → IsFresh said r result q → IsKnown r seen → Copies q buffer n z → FileReads s h (option_map (seen_as r) seen) buffer (Ok n) t (option_map (seen_as z) after)
says_held h s t seen after (Err e) r q z buffer n result is says (answer, same) known copies = err_ok e true (sym answer ∙ is)
says_held h s t seen after (Ok info) r q z buffer n result is says fresh known copies =
    let (same, shows) = holds (is_held r.content info) info seen r q result is refl fresh says.told in
    let c = subst (λ (x : Reading). Copies x buffer n z) same copies in
    let told = copied_told s.whole buffer n c.place r (bytes_in r.content) seen shows known.1 c.at c.some c.count c.copied in
    record {
      keeps = keeps_but h s t says.keeps;
      live = says.keeps.live h;
      refused = λ can. tt;
      within = omega (arith, c.count);
      told = subst (λ x. Both (option_map (seen_as r) seen) (option_map (seen_as x) after) (ReadsIn s.whole buffer (Ok n))) (sym c.left)
          (subst (λ x. Both (option_map (seen_as r) seen) (option_map (seen_as (placed_at (c.place + n) r)) x) (ReadsIn s.whole buffer (Ok n))) (sym says.same) told);
    }
