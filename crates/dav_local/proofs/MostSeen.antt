-- How many calls a look, an opening and a question to the memory ask at most, whatever they answer.
use Rattle.std.proofs.Common.{◌≡◌, inl, inr, Bool, true, false, Option, None, Result, Ok, Err, refl, sym, ap, subst, arith}
use Rattle.dav_core.specs.declared.error.FsError.{FsError}
use Rattle.dav_core.specs.declared.handle.DiskError.{DiskError}
use Rattle.dav_core.specs.declared.handle.Handle.{Handle}
use Rattle.dav_core.specs.declared.handle.Meta.{Meta}
use Rattle.dav_core.specs.declared.handle.OpenOptions.{OpenOptions}
use Rattle.dav_core.specs.Disk.{DiskState, Metas, Opens}
use Rattle.dav_core.specs.Info.{Info}
use Rattle.dav_core.specs.Path.{Names}
use Rattle.dav_core.specs.Unchanged.{Keeps}
use Rattle.dav_io.specs.declared.failure.NoMemory.{NoMemory}
use Rattle.dav_memory.specs.Calls.{LacksMemory, Opening, Seeing}
use Rattle.dav_memory.specs.Memory.{AsksOnceBy, GetsBy, MemoryState}
use Rattle.dav_local.specs.declared.file.LocalFsFile.{LocalFsFile}
use Rattle.dav_local.specs.Calls.{AfterAbsent, LooksAt, TellsAbsent, asks_memory}
use Rattle.dav_local.specs.Files.{filed}
use Rattle.dav_local.specs.Near.{CallsAtMost}
use Rattle.dav_local.specs.Places.{Place}
use Rattle.dav_local.specs.Seeing.{AnswersSeen, OpensThere}
use Rattle.dav_local.specs.Ways.{is_judged}
use Rattle.dav_local.proofs.Counted.{few_called, few_then, unasked}

-- ---- the memory

one_few : {A : Type 0} (call : DiskState → Names → Result A DiskError → DiskState → Type 0) (s t : DiskState) → ((path : Names) (r : Result A DiskError) → call s path r t → CallsAtMost 1 s t)
    → AsksOnceBy call s t → CallsAtMost 1 s t
one_few call s t each (inl same) = unasked 1 s t same
one_few call s t each (inr (path, r, called)) = each path r called

pub looked_few : (s t : DiskState) (path : Names) (r : Result Meta DiskError) → Metas s path r t → CallsAtMost 1 s t
looked_few s t path r metas = few_called 1 s t (omega arith) metas.asks.asked

pub got_seen : (m n : MemoryState) (names : Names) (s t : DiskState) (found : Option (Names × Meta)) → GetsBy Seeing m names s found n t → CallsAtMost 1 s t
got_seen m n names s t found gets = one_few Seeing s t (λ path r metas. looked_few s t path r metas) gets.asks

pub got_open : (m n : MemoryState) (names : Names) (s t : DiskState) (found : Option (Names × Handle)) → GetsBy Opening m names s found n t → CallsAtMost 1 s t
got_open m n names s t found gets = one_few Opening s t (λ path r opens. few_called 1 s t (omega arith) opens.0.asks.asked) gets.asks

pub got_starved : (s t : DiskState) → LacksMemory s t → CallsAtMost 1 s t
got_starved s t (inl same) = unasked 1 s t same
got_starved s t (inr (path, opens)) = few_called 1 s t (omega arith) opens.asks.asked

-- ---- a look at a place

absent_few : (p q : Place) (at : Names) (absent : Result Bool NoMemory) (b : Bool) → asks_memory p.ways at ≡ b → TellsAbsent p at absent q → CallsAtMost 1 p.disk q.disk
absent_few p q at absent false is tells = unasked 1 p.disk q.disk (ap (λ (x : Place). x.disk) (tells.plain is).0)
absent_few p q at (Ok absent) true is tells = one_few Seeing p.disk q.disk (λ path r metas. looked_few p.disk q.disk path r metas) (tells.dots is).asks
absent_few p q at (Err e) true is tells = unasked 1 p.disk q.disk (ap (λ (x : Place). x.disk) tells.starved)

after_few : (p q : Place) (at : Names) (follows slash : Bool) (absent : Result Bool NoMemory) (r : Result Info FsError) → AfterAbsent absent follows slash at p r q → CallsAtMost 1 p.disk q.disk
after_few p q at follows slash (Err e) r (is, same) = unasked 1 p.disk q.disk (ap (λ (x : Place). x.disk) same)
after_few p q at follows slash (Ok true) r (is, same) = unasked 1 p.disk q.disk (ap (λ (x : Place). x.disk) same)
after_few p q at follows slash (Ok false) r (answer, t, metas, is, same) =
    subst (λ d. CallsAtMost 1 p.disk d) (sym (ap (λ (x : Place). x.disk) same)) (few_called 1 p.disk t (omega arith) metas.asks.asked)

pub looked_at_few : (p q : Place) (at : Names) (follows slash : Bool) (r : Result Info FsError) → LooksAt follows slash at p r q → CallsAtMost 2 p.disk q.disk
looked_at_few p q at follows slash r (absent, m, tells, after) =
    few_then 1 1 p.disk m.disk q.disk (absent_few p m at absent (asks_memory p.ways at) refl tells) (after_few m q at follows slash absent r after)

pub seen_few : (p q : Place) (at : Names) (meta : Meta) (slash : Bool) (r : Result Info FsError) → AnswersSeen at meta slash p r q → CallsAtMost 2 p.disk q.disk
seen_few p q at meta slash r answers = by (is_judged p.ways at) refl
  where
    by : (b : Bool) → is_judged p.ways at ≡ b → CallsAtMost 2 p.disk q.disk
    by true is = looked_at_few p q at true slash r (answers.judged is)
    by false is = unasked 2 p.disk q.disk (ap (λ (x : Place). x.disk) (answers.seen is).1)

-- ---- an opening

-- What the memory hasn't is opened after it, with the disk as it was.
pub missed_keeps : (s t : DiskState) (found : Option (Names × Handle)) → OpensThere s (Ok found) t → found ≡ None → Keeps s t
missed_keeps s t found opens is = subst (λ f. OpensThere s (Ok f) t) is opens

pub opened_few : (s t : DiskState) (at : Names) (how : OpenOptions) (r : Result LocalFsFile FsError) → ((answer : Result Handle DiskError) × Opens s at how answer t × (r ≡ filed answer)) → CallsAtMost 1 s t
opened_few s t at how r (answer, opens, is) = few_called 1 s t (omega arith) opens.asks.asked
