-- The call by which a path is found is the call that is asked for there.
use Rattle.std.proofs.Common.{◌≡◌, ◌≤◌, ◌&&◌, ◌||◌, ◌⊎◌, inl, inr, Bool, true, false, not, Option, None, Some, option_map, Result, Ok, Err, refl, sym, ap, subst, ◌∙◌}
use Rattle.std.proofs.lemmas.Bool.{or_parts, not-false}
use Rattle.std.specs.Map.{lookup}
use Rattle.std.specs.Option.{is_some, unwrap_or}
use Rattle.dav_io.specs.Counts.{Rose}
use Rattle.dav_io.proofs.ToldLemmas.{told_after}
use Rattle.dav_core.specs.declared.error.FsError.{FsError}
use Rattle.dav_core.specs.declared.handle.DiskError.{DiskError}
use Rattle.dav_core.specs.declared.handle.DiskError.TheVariants.{Failed, NoMemory as Starved}
use Rattle.dav_core.specs.declared.handle.Handle.{Handle}
use Rattle.dav_core.specs.declared.handle.Meta.{Meta}
use Rattle.dav_core.specs.declared.handle.OpenOptions.{OpenOptions}
use Rattle.dav_core.specs.DavPath.{WebPath, last_name}
use Rattle.dav_core.specs.Disk.{DiskState, Metas, OpenedIn, Opens, kind_opened}
use Rattle.dav_core.specs.Info.{Info}
use Rattle.dav_core.specs.Listing.{or_empty}
use Rattle.dav_core.specs.Writing.{reading}
use Rattle.dav_core.specs.Path.{Names}
use Rattle.dav_core.specs.Unchanged.{Keeps}
use Rattle.dav_core.specs.World.{IsWorld, World}
use Rattle.dav_core.proofs.UnchangedLemmas.{keeps_same}
use Rattle.dav_core.proofs.Rows.{tree_parts}
use Rattle.dav_store.specs.Files.{AsksOnce}
use Rattle.dav_store.specs.Frames.{OpensOne}
use Rattle.dav_store.proofs.Staying.{open_kept}
use Rattle.dav_memory.specs.Calls.{LacksMemory, LooksBy, Opening, Seeing}
use Rattle.dav_memory.specs.Memory.{Gets, GetsBy, GetsOpen}
use Rattle.dav_memory.specs.Trees.{same_path, fold_path as kept_path}
use Rattle.dav_model.specs.Finding.{has_slash, is_localized, is_virtual}
use Rattle.dav_model.specs.Folds.{fold_path, is_dot}
use Rattle.dav_local.specs.Calls.{Finds, IsOpening, Looks, LooksAt, TellsAbsent, is_shut}
use Rattle.dav_local.specs.declared.file.LocalFsFile.{LocalFsFile}
use Rattle.dav_local.specs.Files.{filed}
use Rattle.dav_local.specs.LocalFiles.{local_file}
use Rattle.dav_local.specs.Places.{Place}
use Rattle.dav_local.specs.Saving.{AsksOneCall, OpensOnce, SavesAt, SavesOpening, SeesOnce, is_judged}
use Rattle.dav_local.specs.Seeing.{AnswersSeen, FindsAlike, OpensAt, OpensThere}
use Rattle.dav_local.specs.Walking.{Misses, RecallsBy, StandsAt, Walks}
use Rattle.dav_local.specs.Ways.{is_known, rules_of}
use Rattle.dav_local.proofs.Coming.{walk_starved}
use Rattle.dav_local.proofs.Dating.{made_got}
use Rattle.dav_local.proofs.Framing.{opens_after}
use Rattle.dav_local.proofs.Found.{alike_ends, walk_whole, walks_after}
use Rattle.dav_local.proofs.Keeping.{metas_keep}
use Rattle.dav_local.proofs.Memories.{error_of, place_disk, rows_same}
use Rattle.dav_local.proofs.Opened.{opened_one, unopened_keeps}
use Rattle.dav_local.proofs.Recalling.{both_tell, got_first, got_held, got_rows, none_is, opened_held, path_of, recalls_starved}
use Rattle.dav_local.proofs.Resolved.{resolves_walked}
use Rattle.dav_local.proofs.Rows.{not_both}
use Rattle.dav_local.proofs.Above.{same_folds}
use Rattle.dav_local.proofs.NearFound.{nothing_before}

-- ---- before the call by which a path was found, and after it

-- What was found by a call was found before it, with the disk as it was.
walks_before : (p q : Place) (names at : Names) → Walks p names (Ok at) q → Walks p names (Ok at) (record q { disk = p.disk })
walks_before p q names at walks = record {
  keeps = record { ways = walks.keeps.ways; keeps = keeps_same p.disk; learns = walks.keeps.learns; dots = walks.keeps.dots; tells = walks.keeps.tells; moment = walks.keeps.moment; made = walks.keeps.made };
  refused = tt;
  alike = walks.alike;
  told = walks.told;
  first = walks.first;
  rows = walks.rows;
}

walks_asked : (p q : Place) (names at : Names) → Walks p names (Ok at) (record q { disk = p.disk }) → Keeps p.disk q.disk → Walks p names (Ok at) q
walks_asked p q names at walks keeps = record {
  keeps = record { ways = walks.keeps.ways; keeps = keeps; learns = walks.keeps.learns; dots = walks.keeps.dots; tells = walks.keeps.tells; moment = walks.keeps.moment; made = walks.keeps.made };
  refused = tt;
  alike = walks.alike;
  told = walks.told;
  first = walks.first;
  rows = walks.rows;
}

-- ---- what the memory has

-- What is found by a call was found before it.
got_walks : {A : Type 0} (call : DiskState → Names → Result A DiskError → DiskState → Type 0) (p q : Place) (names : Names) (f : Names × A) → q.ways ≡ p.ways → q.moment ≡ p.moment
    → GetsBy call p.memory names p.disk (Some f) q.memory q.disk → StandsAt p.disk f.0 → Walks p names (Ok f.0) (record q { disk = p.disk })
got_walks call p q names f ways moment gets stands = record {
  keeps = record {
    ways = ways;
    keeps = keeps_same p.disk;
    learns = gets.learns;
    dots = gets.dots;
    tells = both_tell p.memory.paths q.memory.paths (λ a b. LooksBy call (lookup (same_path (kept_path names)) a.entries) a names p.disk (Some f) b q.disk) gets.paths;
    moment = moment;
    made = made_got call p.moment p.memory q.memory names p.disk q.disk (Some f) gets;
  };
  refused = tt;
  alike = alike;
  told = λ w told is. alike_ends w.tree names f.0 (tree_parts w.tree is) alike (λ clear. stands w told is clear);
  first = λ e is. got_first call p.memory.paths q.memory.paths names p.disk q.disk f gets.paths;
  rows = got_rows call p q names (Some f) gets;
}
  where
    alike : fold_path f.0 ≡ fold_path names
    alike = sym (same_folds f.0) ∙ gets.folds ∙ same_folds names

got_misses : {A : Type 0} (call : DiskState → Names → Result A DiskError → DiskState → Type 0) → ((s t : DiskState) (path : Names) (e : DiskError) → call s path (Err e) t → Keeps s t)
    → (p q : Place) (names : Names) → q.ways ≡ p.ways → q.moment ≡ p.moment → GetsBy call p.memory names p.disk None q.memory q.disk → Misses p q
got_misses call refused p q names ways moment gets = record {
  keeps = record {
    ways = ways;
    keeps = by_call (gets.refused refl);
    learns = gets.learns;
    dots = gets.dots;
    tells = both_tell p.memory.paths q.memory.paths (λ a b. LooksBy call (lookup (same_path (kept_path names)) a.entries) a names p.disk None b q.disk) gets.paths;
    moment = moment;
    made = made_got call p.moment p.memory q.memory names p.disk q.disk None gets;
  };
  rows = got_rows call p q names None gets;
}
  where
    by_call : (q.disk ≡ p.disk) ⊎ ((path : Names) × (e : DiskError) × call p.disk path (Err e) q.disk) → Keeps p.disk q.disk
    by_call (inl same) = subst (Keeps p.disk) (sym same) (keeps_same p.disk)
    by_call (inr (path, e, called)) = refused p.disk q.disk path e called

pub recalls_seen : (p q : Place) (names : Names) (found : Option (Names × Meta)) → q.ways ≡ p.ways → q.moment ≡ p.moment → Gets p.memory names p.disk found q.memory q.disk → RecallsBy Seeing p names (Ok found) q
recalls_seen p q names None ways moment gets = got_misses Seeing (λ s t path e metas. metas_keep true s path (Err e) t metas) p q names ways moment gets
recalls_seen p q names (Some f) ways moment gets =
    (got_walks Seeing p q names f ways moment gets (λ w told is clear. let (row, stands, same) = gets.stood.told w told clear in (row, stands)), gets.stood)

opened_stands : (s : DiskState) (path : Names) (h : Handle) (t : DiskState) → Opens s path reading (Ok h) t → StandsAt s path
opened_stands s path h t opens = λ w told is clear.
    let (v, now, opened) = told_after s.told t.told (OpenedIn path (Ok h) (kind_opened (Ok h) t)) w opens.told told in
    let (number, changed, held, stands) = opened in
    let (row, there, numbered, kind) = stands clear in (row, there)

pub recalls_opened : (p q : Place) (names : Names) (found : Option (Names × Handle)) → q.ways ≡ p.ways → q.moment ≡ p.moment → GetsOpen p.memory names p.disk found q.memory q.disk
    → RecallsBy Opening p names (Ok found) q × OpensThere p.disk (Ok found) q.disk
recalls_opened p q names None ways moment gets =
    let misses = got_misses Opening (λ s t path e opens. unopened_keeps s path e t opens.0) p q names ways moment gets in (misses, misses.keeps.keeps)
recalls_opened p q names (Some f) ways moment gets =
    ((got_walks Opening p q names f ways moment gets (opened_stands p.disk f.0 f.1 q.disk gets.stood.0), gets.stood), opened_one p.disk f.0 f.1 q.disk gets.stood.0)

pub recalls_nothing : (p q : Place) (names : Names) → q.ways ≡ p.ways → q.moment ≡ p.moment → q.memory ≡ p.memory → q.disk ≡ p.disk → Walks p names (Err FsError.NoMemory) q
recalls_nothing p q names ways moment memory disk =
    let recalls = recalls_starved p q names ways moment memory disk in walk_starved p q names recalls.keeps recalls.rows

-- Want of memory leaves the disk as it was, but for the count of its calls.
pub lacking_keeps : (s t : DiskState) → LacksMemory s t → Keeps s t
lacking_keeps s t (inl same) = subst (Keeps s) (sym same) (keeps_same s)
lacking_keeps s t (inr (path, opens)) = unopened_keeps s path Starved t opens

-- The disk was asked nothing, or one opening.
pub lacking_once : (p q : Place) → LacksMemory p.disk q.disk → AsksOneCall {T = Option (Names × Handle)} p (Err FsError.NoMemory) q
lacking_once p q (inl same) = inr (refl, same)
lacking_once p q (inr (path, opens)) = inl opens.asks.asked

pub opens_nothing : (p q : Place) (names : Names) → q.ways ≡ p.ways → q.moment ≡ p.moment → q.memory ≡ p.memory → LacksMemory p.disk q.disk → Walks p names (Err FsError.NoMemory) q
opens_nothing p q names ways moment memory lacks =
    let recalls = recalls_starved p (record q { disk = p.disk }) names ways moment memory refl in
    walk_starved p q names
    (record { ways = ways; keeps = lacking_keeps p.disk q.disk lacks; learns = recalls.keeps.learns; dots = recalls.keeps.dots; tells = recalls.keeps.tells; moment = moment; made = recalls.keeps.made })
    recalls.rows

-- ---- a call after a path was found by folding

pub finds_missed : {T : Type 0} (p m q : Place) (names : Names) (call : Names → Place → Result T FsError → Place → Type 0) (r : Result T FsError) → Misses p m → FindsAlike m names call r q
    → FindsAlike p names call r q
finds_missed p m q names call r misses (found, n, walks, after) = (found, n, walks_after p m n names found misses.keeps misses.rows walks, after)

pub finds_absent : {T : Type 0} (p q : Place) (t : DiskState) (names : Names) (call : Names → Place → Result T FsError → Place → Type 0) (r : Result T FsError) → Keeps p.disk t
    → FindsAlike (record p { disk = t }) names call r q → FindsAlike p names call r q
finds_absent p q t names call r keeps finds =
    finds_missed p (record p { disk = t }) q names call r (record { keeps = place_disk p t keeps; rows = rows_same p (record p { disk = t }) refl }) finds

pub finds_failed : {T : Type 0} (p : Place) (t : DiskState) (names : Names) (call : Names → Place → Result T FsError → Place → Type 0) → Keeps p.disk t → Rose p.disk.faults t.faults
    → FindsAlike p names call (Err FsError.GeneralFailure) (record p { disk = t })
finds_failed p t names call keeps rose = (
  Err FsError.GeneralFailure,
  record p { disk = t },
  record { keeps = place_disk p t keeps; refused = inl (refl, rose); alike = tt; told = tt; first = tt; rows = rows_same p (record p { disk = t }) refl },
  (refl, refl),
)

-- A path that isn't known is found by folding.
pub finds_walked : {T : Type 0} (p q : Place) (names : Names) (call : Names → Place → Result T FsError → Place → Type 0) (r : Result T FsError) → ((w : World) → p.disk.told ≡ Some w → IsWorld w)
    → is_known p.ways ≡ false → FindsAlike p names call r q → Finds p names call r q
finds_walked p q names call r worlds known (found, m, walks, after) =
    let (alone, folding) = or_parts (is_some p.ways.alone) (not p.ways.folds) known in
    (found, m, resolves_walked p m names found worlds (none_is p.ways.alone alone) (not-false p.ways.folds folding) walks, after)

-- ---- looks

pub not_judged : (a b c : Bool) → (a && (b || c)) ≡ false → ((a && b) ≡ false) × ((a && c) ≡ false)
not_judged true true c e = cc
not_judged true false c e = (refl, e)
not_judged false b c e = (refl, refl)

tells_present : (p : Place) (at : Names) → is_judged p.ways at ≡ false → TellsAbsent p at (Ok false) p
tells_present p at e =
    let (plain, here) = not_judged p.ways.macos (is_dot (or_empty (last_name at))) (is_localized at) e in
    record { ways = refl; plain = λ asks. (refl, ap (λ b. Ok b) (sym here)); dots = λ asks. not_both (p.ways.macos && is_dot (or_empty (last_name at))) asks plain; starved = tt }

-- What a look found by which the path was found is its answer.
pub look_found : (p m q : Place) (names at : Names) (meta : Meta) (slash : Bool) (r : Result Info FsError) → Walks p names (Ok at) (record m { disk = p.disk }) → Metas p.disk at (Ok meta) m.disk
    → AnswersSeen at meta slash m r q → FindsAlike p names (LooksAt true slash) r q
look_found p m q names at meta slash r walks metas answers = by_judged (is_judged m.ways at) refl
  where
    by_judged : (b : Bool) → is_judged m.ways at ≡ b → FindsAlike p names (LooksAt true slash) r q
    by_judged true e = (Ok at, m, walks_asked p m names at walks (metas_keep true p.disk at (Ok meta) m.disk metas), answers.judged e)
    by_judged false e =
        let (is, same) = answers.seen e in
        let before : Place = record m { disk = p.disk } in
        (Ok at, before, walks, (Ok false, before, tells_present before at e, (Ok meta, m.disk, metas, is, same)))

pub look_here : (p q : Place) (t : DiskState) (names : Names) (meta : Meta) (slash : Bool) (r : Result Info FsError) → Metas p.disk names (Ok meta) t → Keeps p.disk t
    → AnswersSeen names meta slash (record p { disk = t }) r q → FindsAlike p names (LooksAt true slash) r q
look_here p q t names meta slash r metas keeps answers =
    let walks = walk_whole p t names meta metas keeps in
    look_found p (record p { disk = t }) q names names meta slash r (walks_before p (record p { disk = t }) names names walks) metas answers

-- ---- what a look saves

pub sees_once : (p q : Place) (names : Names) (found : Option (Names × Meta)) → Gets p.memory names p.disk found q.memory q.disk → SeesOnce p names (Ok found) q
sees_once p q names found gets = record {
  starved = tt;
  saved = λ nothing at held. by_found at found (got_held p names at found q.memory q.disk gets nothing held);
}
  where
    by_found : (at : Names) (found : Option (Names × Meta)) → (path_of found ≡ Some at) × AsksOnce p.disk q.disk → (option_map (λ (f : Names × Meta). f.0) found ≡ Some at) × AsksOnce p.disk q.disk
    by_found at None both = both
    by_found at (Some f) both = both

-- What the memory has costs the call by which it was seen.
pub look_saved : (p m q : Place) (names there : Names) (meta : Meta) (slash : Bool) (found : Option (Names × Meta)) (r : Result Info FsError) → SeesOnce p names (Ok found) m
    → found ≡ Some (there, meta) → m.ways ≡ p.ways → AnswersSeen there meta slash m r q → Keeps p.disk m.disk → Keeps m.disk q.disk → SavesAt p names r q
look_saved p m q names there meta slash found r sees is ways answers first then = λ known nothing at held judged.
    let (same, once) = sees.saved (nothing_before p.disk m.disk q.disk nothing first.counts then.counts) at held in
    let here : at ≡ there = (let e : Some at ≡ Some there = sym same ∙ ap (option_map (λ (f : Names × Meta). f.0)) is in cc) in
    let (answer, still) = answers.seen (ap (λ w. is_judged w there) ways ∙ ap (is_judged p.ways) (sym here) ∙ judged) in
    inl (subst (λ (d : DiskState). AsksOnce p.disk d) (sym (ap (λ (x : Place). x.disk) still)) once)

-- Else the path isn't remembered.
pub look_unknown : (p m q : Place) (names : Names) (found : Option (Names × Meta)) (r : Result Info FsError) → SeesOnce p names (Ok found) m → found ≡ None → Keeps p.disk m.disk → Keeps m.disk q.disk
    → SavesAt p names r q
look_unknown p m q names found r sees is first then = λ known nothing at held judged.
    let (same, once) = sees.saved (nothing_before p.disk m.disk q.disk nothing first.counts then.counts) at held in
    let never : ◌≡◌ {A = Option Names} None (Some at) = sym (ap (option_map (λ (f : Names × Meta). f.0)) is) ∙ same in cc

pub look_starved : (p q : Place) (names : Names) (e : FsError) → SeesOnce p names (Err e) q → SavesAt p names (Err e) q
look_starved p q names e sees = λ known nothing at held judged. inr (let (is, same) = sees.starved in (ap (λ x. Err x) (error_of e is), same))

-- ---- openings

-- The opening by which the path was found is the one that was asked for.
pub open_found : (p m : Place) (names : Names) (f : Names × Handle) → RecallsBy Opening p names (Ok (Some f)) m → FindsAlike p names (OpensAt reading) (Ok (record { handle = f.1 })) m
open_found p m names f (walks, opens) = (Ok f.0, record m { disk = p.disk }, walks, (Ok f.1, m.disk, opens.0, refl, refl))

-- ---- what an opening saves

pub opens_once : (p q : Place) (names : Names) (found : Option (Names × Handle)) → GetsOpen p.memory names p.disk found q.memory q.disk → OpensOnce p names (Ok found) q
opens_once p q names found gets = record {
  starved = tt;
  saved = λ nothing at held. by_found at found (opened_held p names at found q.memory q.disk gets nothing held);
}
  where
    by_found : (at : Names) (found : Option (Names × Handle)) → (path_of found ≡ Some at) × AsksOnce p.disk q.disk → (option_map (λ (f : Names × Handle). f.0) found ≡ Some at) × AsksOnce p.disk q.disk
    by_found at None both = both
    by_found at (Some f) both = both

pub open_saved : (p q : Place) (names : Names) (found : Option (Names × Handle)) (r : Result LocalFsFile FsError) → OpensOnce p names (Ok found) q → SavesOpening p names r q
open_saved p q names found r opens = λ known nothing at held. let (same, once) = opens.saved nothing at held in inl once

pub open_unknown : (p m q : Place) (names : Names) (found : Option (Names × Handle)) (r : Result LocalFsFile FsError) → OpensOnce p names (Ok found) m → found ≡ None → p.disk.faults ≤ m.disk.faults
    → m.disk.faults ≤ q.disk.faults → SavesOpening p names r q
open_unknown p m q names found r opens is first then = λ known nothing at held.
    let (same, once) = opens.saved (nothing_before p.disk m.disk q.disk nothing first then) at held in
    let never : ◌≡◌ {A = Option Names} None (Some at) = sym (ap (option_map (λ (f : Names × Handle). f.0)) is) ∙ same in cc

-- where nothing was found, nothing but faults may have been counted
pub missed_counts : (s t : DiskState) (found : Option (Names × Handle)) → OpensThere s (Ok found) t → found ≡ None → s.faults ≤ t.faults
missed_counts s t found opens is = let keeps : Keeps s t = subst (λ f. OpensThere s (Ok f) t) is opens in keeps.counts

-- an opening takes no fault back
pub opened_counts : (s t : DiskState) (r : Result LocalFsFile FsError) → OpensOne local_file reading s r t → s.faults ≤ t.faults
opened_counts s t (Ok f) one = one.others.counts
opened_counts s t (Err e) one = one.others.counts

pub open_starved : (p q : Place) (names : Names) (e : FsError) → OpensOnce p names (Err e) q → SavesOpening p names (Err e) q
open_starved p q names e opens = λ known nothing at held. elim opens.starved [
  | inl once ↦ inl once
  | inr starved ↦ inr (let (is, same) = starved in (ap (λ x. Err x) (error_of e is), same))
]

-- ---- by what the steps answer

pub finds_there : {T : Type 0} (p m q : Place) (names at : Names) (call : Names → Place → Result T FsError → Place → Type 0) (r : Result T FsError) → Walks p names (Ok at) m → call at m r q
    → FindsAlike p names call r q
finds_there p m q names at call r walks called = (Ok at, m, walks, called)

pub finds_refused : {T : Type 0} (p q : Place) (names : Names) (call : Names → Place → Result T FsError → Place → Type 0) (e : FsError) → Walks p names (Err e) q → FindsAlike p names call (Err e) q
finds_refused p q names call e walks = (Err e, q, walks, (refl, refl))

pub finds_unknown : {A T : Type 0} (asks : DiskState → Names → Result A DiskError → DiskState → Type 0) (p m q : Place) (names : Names) (call : Names → Place → Result T FsError → Place → Type 0)
    (found : Option (Names × A)) (r : Result T FsError) → RecallsBy asks p names (Ok found) m → found ≡ None → FindsAlike m names call r q → FindsAlike p names call r q
finds_unknown asks p m q names call found r recalls is finds = finds_missed p m q names call r (subst (λ f. RecallsBy asks p names (Ok f) m) is recalls) finds

pub look_failed : {T : Type 0} (p : Place) (t : DiskState) (names : Names) (call : Names → Place → Result T FsError → Place → Type 0) (e : DiskError) → Metas p.disk names (Err e) t → Keeps p.disk t
    → e ≡ Failed → FindsAlike p names call (Err FsError.GeneralFailure) (record p { disk = t })
look_failed p t names call e metas keeps is = finds_failed p t names call keeps (metas.asks.rose (ap (λ x. Err x) is))

pub look_recalled : (p m q : Place) (names at : Names) (meta : Meta) (slash : Bool) (found : Option (Names × Meta)) (r : Result Info FsError) → RecallsBy Seeing p names (Ok found) m
    → found ≡ Some (at, meta) → AnswersSeen at meta slash m r q → FindsAlike p names (LooksAt true slash) r q
look_recalled p m q names at meta slash found r recalls is answers =
    let (walks, metas) = subst (λ f. RecallsBy Seeing p names (Ok f) m) is recalls in look_found p m q names at meta slash r walks metas answers

pub open_recalled : (p m : Place) (names at : Names) (h : Handle) (found : Option (Names × Handle)) → RecallsBy Opening p names (Ok found) m → found ≡ Some (at, h)
    → FindsAlike p names (OpensAt reading) (Ok (record { handle = h })) m
open_recalled p m names at h found recalls is = open_found p m names (at, h) (subst (λ f. RecallsBy Opening p names (Ok f) m) is recalls)

-- ---- openings, by what the steps answer

pub open_there : (p m : Place) (t : DiskState) (names at : Names) (found : Option Names) (how : OpenOptions) (r : Result LocalFsFile FsError) → Walks p names (Ok (unwrap_or found names)) m
    → at ≡ unwrap_or found names → how ≡ reading → (answer : Result Handle DiskError) × Opens m.disk at how answer t × (r ≡ filed answer) → FindsAlike p names (OpensAt reading) r (record m { disk = t })
open_there p m t names at found how r walks here is (answer, opens, said) =
    (Ok at, m, subst (λ z. Walks p names (Ok z) m) (sym here) walks, (answer, t, subst (λ o. Opens m.disk at o answer t) is opens, said, refl))

pub opened_recalled : (s t : DiskState) (at : Names) (h : Handle) (found : Option (Names × Handle)) → OpensThere s (Ok found) t → found ≡ Some (at, h)
    → OpensOne local_file reading s (Ok (record { handle = h })) t
opened_recalled s t at h found opens is = subst (λ f. OpensThere s (Ok f) t) is opens

pub opened_unknown : (s m t : DiskState) (found : Option (Names × Handle)) (r : Result LocalFsFile FsError) → OpensThere s (Ok found) m → found ≡ None
    → OpensOne local_file reading m r t → OpensOne local_file reading s r t
opened_unknown s m t found r opens is one = opens_after local_file reading s m t r (subst (λ f. OpensThere s (Ok f) m) is opens) one

pub opened_there : (s m t : DiskState) (how : OpenOptions) (r : Result LocalFsFile FsError) → Keeps s m → how ≡ reading → OpensOne local_file how m r t
    → OpensOne local_file reading s r t
opened_there s m t how r keeps is one =
    opens_after local_file reading s m t r keeps (subst (λ o. OpensOne local_file o m r t) is one)

pub opened_nothing : (s t : DiskState) (e : FsError) → Keeps s t → OpensOne local_file reading s (Err e) t
opened_nothing s t e keeps = record { others = open_kept s t keeps; kept = λ is. keeps }

-- ---- the calls of the store

pub look_asked : (p q : Place) (path : WebPath) (names : Names) (slash follows : Bool) (r : Result Info FsError) → ((w : World) → p.disk.told ≡ Some w → IsWorld w) → follows ≡ true
    → is_virtual (rules_of p.ways) path ≡ false → is_known p.ways ≡ false → names ≡ path.names → slash ≡ has_slash p.ways.alone path → FindsAlike p names (LooksAt true slash) r q
    → Looks follows p path r q
look_asked p q path names slash follows r worlds is real known same slashed finds =
    subst (λ f. Looks f p path r q) (sym is) (record {
      empty = λ e. not_both (is_virtual (rules_of p.ways) path) e real;
      asked = λ e.
          subst (λ s. Finds p path.names (LooksAt true s) r q) slashed
          (subst (λ n. Finds p n (LooksAt true slash) r q) same (finds_walked p q names (LooksAt true slash) r worlds known finds));
    })

pub open_asked : (p q : Place) (path : WebPath) (names : Names) (how : OpenOptions) (r : Result LocalFsFile FsError) → ((w : World) → p.disk.told ≡ Some w → IsWorld w)
    → is_shut p.ways path ≡ false → how ≡ reading → is_known p.ways ≡ false → names ≡ path.names → FindsAlike p names (OpensAt reading) r q → IsOpening p path how r q
open_asked p q path names how r worlds shut is known same finds = record {
  forbidden = λ e. not_both (is_shut p.ways path) e shut;
  asked = λ e.
      subst (λ o. Finds p path.names (OpensAt o) r q) (sym is)
      (subst (λ n. Finds p n (OpensAt reading) r q) same (finds_walked p q names (OpensAt reading) r worlds known finds));
}
