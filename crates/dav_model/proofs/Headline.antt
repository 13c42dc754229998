-- The headline: in a valid run a GET or HEAD is answered as the rules of the run say, as if there were no memory.
use Rattle.std.proofs.Common.{◌≡◌, ◌⊎◌, Bool, true, false, cond, ◌||◌, ◌&&◌, Some, Result, Ok, Err, refl, sym, ap, subst, ◌∙◌}
use Rattle.dav_io.specs.Counts.{Rose}
use Rattle.dav_core.specs.declared.error.FsError.{FsError}
use Rattle.dav_core.specs.declared.error.FsError.TheVariants.{NotFound}
use Rattle.dav_core.specs.DavPath.{WebPath}
use Rattle.dav_core.specs.Path.{Names}
use Rattle.dav_core.specs.Tree.{look, is_linked}
use Rattle.dav_core.specs.World.{World}
use Rattle.dav_model.specs.Head.{Reply, Stood}
use Rattle.dav_model.specs.Rules.{Rules, Knowledge}
use Rattle.dav_model.specs.Shown.{Shown}
use Rattle.dav_model.specs.Finding.{Finding, MayShow, MayShowOf, empty_file, exactly, has_slash, is_clear, is_localized, listed_in, is_virtual, looked_at, opened_at, resolved, shown_in, stood_at}
use Rattle.dav_model.specs.Due.{Course, Query, course, directing, due, due_course, due_listed, due_looked, due_opened, index_path, listing, opening, refusing, IsRight, IsHead, IsSpoiled}
use Rattle.dav_model.specs.Trail.{Point}
use Rattle.dav_model.specs.Valid.{Twinless}
use Rattle.dav_model.specs.Play.{Reads, MeetsNoLink}
use Rattle.dav_model.proofs.Courses.{at_opened, listed_kind}
use Rattle.dav_model.proofs.LooseWalks.{found_exactly}

-- What the memory calls absent isn't there. (It is so where what it knows is sound, in every world.)
abbrev pub DeniesRightly : World → Finding → Type 0
DeniesRightly w f = (path : Names) (slash : Bool) → f.denies path ≡ true → stood_at slash w (look w.tree path) ≡ Err NotFound

looked_same : (rules : Rules) (w : World) (f : Finding) (path : WebPath) → f.looks path.names ≡ resolved rules w.tree path.names → DeniesRightly w f
    → looked_at rules w f path ≡ looked_at rules w (exactly rules w.tree) path
looked_same rules w f path e rightly = rw e (by_denial (is_virtual rules path) (rules.macos && is_localized at) (f.denies at) refl)
  where
    at : Names
    at = resolved rules w.tree path.names

    by_denial : (v l b : Bool) → f.denies (resolved rules w.tree path.names) ≡ b
        → cond v (Ok empty_file) (cond (l || b) (Err NotFound) (stood_at (has_slash rules.alone path) w (look w.tree (resolved rules w.tree path.names))))
        ≡ cond v (Ok empty_file) (cond (l || false) (Err NotFound) (stood_at (has_slash rules.alone path) w (look w.tree (resolved rules w.tree path.names))))
    by_denial true l b e = refl
    by_denial false true b e = refl
    by_denial false false true e = sym (rightly _ _ e)
    by_denial false false false e = refl

-- What is due is by what is looked at, and by what is opened or listed for that.
abbrev pub SameOpened : Query → Shown → Shown → Type 0
SameOpened q a b = (stood : Stood) → b.looked q.path ≡ Ok stood → (at : WebPath) → course q stood.kind ≡ opening at → a.opened at ≡ b.opened at

abbrev pub SameListed : Query → Shown → Shown → Type 0
SameListed q a b = (stood : Stood) → b.looked q.path ≡ Ok stood → course q stood.kind ≡ listing → a.listed q.path ≡ b.listed q.path

course_same : (a b : Shown) (path : WebPath) (c : Course) → ((at : WebPath) → c ≡ opening at → a.opened at ≡ b.opened at) → (c ≡ listing → a.listed path ≡ b.listed path)
    → due_course a path c ≡ due_course b path c
course_same a b path (refusing status close) opened listed = refl
course_same a b path directing opened listed = refl
course_same a b path (opening at) opened listed = ap (due_opened at) (opened at refl)
course_same a b path listing opened listed = ap (due_listed path) (listed refl)

found_same : (a b : Shown) (q : Query) (found : Result Stood FsError) → b.looked q.path ≡ found → SameOpened q a b → SameListed q a b → due_looked a q found ≡ due_looked b q found
found_same a b q (Err e) is opened listed = refl
found_same a b q (Ok stood) is opened listed = course_same a b q.path (course q stood.kind) (opened stood is) (listed stood is)

pub due_same : (a b : Shown) (q : Query) → a.looked q.path ≡ b.looked q.path → SameOpened q a b → SameListed q a b → due a q ≡ due b q
due_same a b q looked opened listed = rw (looked, found_same a b q (b.looked q.path) refl opened listed) refl

shown_same : (rules : Rules) (k : Knowledge) (w : World) (shown : Shown) (q : Query) → (rules.folds ≡ true → Twinless w) → MeetsNoLink rules w q
    → (may : MayShowOf rules k w shown) → DeniesRightly w may.finding → due shown q ≡ due (shown_in rules w) q
shown_same rules k w shown q apart clear may rightly =
    let f = may.finding in
    let looks = found_exactly rules w.tree q.path.names _ apart (may.may.looks q.path.names) in
    due_same shown (shown_in rules w) q
    (may.looked q.path (ap (is_linked w.tree) looks ∙ clear.paths.path) ∙ looked_same rules w f q.path looks rightly)
    (λ stood is at takes. at_opened q (λ path. shown.opened path ≡ opened_at rules w (exactly rules w.tree) path)
    (record { path = opened_clear q.path clear.paths.path; index = λ slash name set. opened_clear (index_path q.path name) (clear.paths.index slash name set) }) stood.kind at takes)
    (λ stood is takes. listed_clear (clear.members (listed_kind q stood.kind takes)))
  where
    opened_same : (rules : Rules) (w : World) (f : Finding) (path : WebPath) → f.opens path.names ≡ resolved rules w.tree path.names → opened_at rules w f path ≡ opened_at rules w (exactly rules w.tree) path
    opened_same rules w f path e = rw e refl

    opened_clear : (path : WebPath) → is_linked w.tree (resolved rules w.tree path.names) ≡ false → shown.opened path ≡ opened_at rules w (exactly rules w.tree) path
    opened_clear path none =
        let opens = found_exactly rules w.tree path.names _ apart (may.may.opens path.names) in
        may.opened path (ap (is_linked w.tree) opens ∙ none) ∙ opened_same rules w may.finding path opens

    listed_clear : is_clear w.tree (resolved rules w.tree q.path.names) ≡ true → shown.listed q.path ≡ listed_in w (resolved rules w.tree q.path.names)
    listed_clear none =
        let lists = found_exactly rules w.tree q.path.names _ apart (may.may.lists q.path.names) in
        may.listed q.path (ap (is_clear w.tree) lists ∙ none) ∙ ap (listed_in w) lists

pub headline : (rules : Rules) (k : Knowledge) (s t : Point) (q : Query) (reply : Reply) (w : World) → s.told ≡ Some w → (rules.folds ≡ true → Twinless w) → MeetsNoLink rules w q
    → (reads : Reads rules k s t q reply) → ((may : MayShowOf rules k w reads.shown) → DeniesRightly w may.finding) → IsRight q (shown_in rules w) (Rose s.faults t.faults) reply
headline rules k s t q reply w told apart clear reads rightly =
    let may : MayShowOf rules k w reads.shown = subst (λ z. MayShow rules k z reads.shown) told reads.may in
    subst (λ d. IsHead q d reply ⊎ (IsSpoiled q d reply × Rose s.faults t.faults)) (shown_same rules k w reads.shown q apart clear may (rightly may)) reads.right
