-- What a local store shows is what the rules show, and what it finds a store may find.
use Rattle.std.proofs.Common.{◌≡◌, ◌&&◌, ◌||◌, Bool, true, false, cond, List, Some, Result, Ok, Err, refl, sym, ap, subst, ◌∙◌}
use Rattle.std.proofs.lemmas.Bool.{and_parts}
use Rattle.dav_core.specs.declared.error.FsError.{FsError}
use Rattle.dav_core.specs.declared.error.FsError.TheVariants as fs
use Rattle.dav_core.specs.declared.handle.DiskError.{DiskError}
use Rattle.dav_core.specs.declared.tree.Kind.{Kind}
use Rattle.dav_core.specs.declared.tree.Kind.TheVariants.{Dir, File, Link}
use Rattle.dav_core.specs.declared.tree.Row.{Row}
use Rattle.dav_core.specs.DavPath.{WebPath}
use Rattle.dav_core.specs.Path.{Names, same_names}
use Rattle.dav_core.specs.Tree.{is_link, is_linked, look}
use Rattle.dav_core.specs.World.{World}
use Rattle.dav_core.proofs.Plain.{names_same}
use Rattle.dav_store.specs.Standing.{Standing}
use Rattle.dav_model.specs.declared.settings.Settings.{Settings}
use Rattle.dav_core.specs.declared.member.Member.{Member}
use Rattle.dav_model.specs.Finding.{Denies, EndsLoosely, Finding, MayFind, MayShow, empty_file, has_slash, is_clear, is_forbidden, is_localized, is_virtual, listed_in, looked_at, opened_at, resolved, stood_at}
use Rattle.dav_model.specs.Head.{Stood}
use Rattle.dav_model.specs.Rules.{Knowledge, Rules}
use Rattle.dav_model.proofs.LooseWalks.{exactly_may, names_equal}
use Rattle.dav_model.proofs.PlainWalks.{unlinked_row}
use Rattle.dav_local.specs.Calls.{is_shut}
use Rattle.dav_local.specs.Shown.{as_stood, empty_standing, finding_of, found_at, looked_by, one_found, opened_by, shown_where}
use Rattle.dav_local.specs.Standing.{found, standing_of, under_slash}
use Rattle.dav_local.specs.Ways.{Ways, rules_of, rules_with}

-- ---- what stands at a place

stood_row : (slash : Bool) (w : World) (row : Row) → is_link row.kind ≡ false → as_stood (under_slash slash row.kind (standing_of w row)) ≡ stood_at slash w (Ok row)
stood_row slash w row e = by_kind slash row.kind refl
  where
    by_kind : (slash : Bool) (kind : Kind) → row.kind ≡ kind → as_stood (under_slash slash row.kind (standing_of w row)) ≡ stood_at slash w (Ok row)
    by_kind true Dir is = rw is refl
    by_kind true File is = rw is refl
    by_kind true Link is = let f : true ≡ false = sym (ap is_link is) ∙ e in cc
    by_kind false kind is = refl

stood_by : (slash : Bool) (w : World) (stands : Result Row DiskError) → ((row : Row) → stands ≡ Ok row → is_link row.kind ≡ false) → as_stood (found w slash stands) ≡ stood_at slash w stands
stood_by slash w (Ok row) none = stood_row slash w row (none row refl)
stood_by slash w (Err e) none = refl

stood_there : (slash : Bool) (w : World) (end : Names) → is_linked w.tree end ≡ false → as_stood (found w slash (look w.tree end)) ≡ stood_at slash w (look w.tree end)
stood_there slash w end clear = stood_by slash w (look w.tree end) (λ row stands. unlinked_row w.tree end row stands clear)

as_cond : (b : Bool) (x y : Result Standing FsError) → as_stood (cond b x y) ≡ cond b (as_stood x) (as_stood y)
as_cond true x y = refl
as_cond false x y = refl

pub looked_same : (settings : Settings) (ways : Ways) (w : World) (end : Names) (denies : Bool) (path : WebPath) → is_linked w.tree end ≡ false
    → as_stood (looked_by ways w end denies path) ≡ looked_at (rules_with settings ways) w (found_at end denies) path
looked_same settings ways w end denies path clear =
    as_cond (is_virtual (rules_of ways) path) (Ok empty_standing) (cond ((ways.macos && is_localized end) || denies) (Err fs.NotFound) (found w (has_slash ways.alone path) (look w.tree end)))
    ∙ ap (λ x. cond (is_virtual (rules_of ways) path) (as_stood (Ok empty_standing)) x)
    (as_cond ((ways.macos && is_localized end) || denies) (Err fs.NotFound) (found w (has_slash ways.alone path) (look w.tree end))
    ∙ ap (λ x. cond ((ways.macos && is_localized end) || denies) (Err fs.NotFound) x) (stood_there (has_slash ways.alone path) w end clear))

pub opened_same : (settings : Settings) (ways : Ways) (w : World) (end : Names) (path : WebPath) → is_linked w.tree end ≡ false
    → as_stood (opened_by ways w end path) ≡ opened_at (rules_with settings ways) w (found_at end false) path
opened_same settings ways w end path clear =
    as_cond (is_shut ways path) (Err fs.Forbidden) (found w false (look w.tree end))
    ∙ ap (λ x. cond (is_shut ways path) (Err fs.Forbidden) x) (stood_there false w end clear)

-- ---- where paths are found

one_loosely : (rules : Rules) (k : Knowledge) (w : World) (at : Names × Names) (names : Names) → EndsLoosely rules.alone rules.folds w.tree at.0 at.1
    → EndsLoosely rules.alone rules.folds w.tree names (one_found rules w at names)
one_loosely rules k w at names loosely = by_name (same_names names at.0) refl
  where
    by_name : (b : Bool) → same_names names at.0 ≡ b → EndsLoosely rules.alone rules.folds w.tree names (cond b at.1 (resolved rules w.tree names))
    by_name true e = subst (λ z. EndsLoosely rules.alone rules.folds w.tree z at.1) (sym (names_same names at.0 e)) loosely
    by_name false e = (exactly_may rules k w.tree).looks names

pub may_find : (rules : Rules) (k : Knowledge) (w : World) (looked opened listed : Names × Names) (denies : Bool) → EndsLoosely rules.alone rules.folds w.tree looked.0 looked.1
    → EndsLoosely rules.alone rules.folds w.tree opened.0 opened.1 → EndsLoosely rules.alone rules.folds w.tree listed.0 listed.1
    → (denies ≡ true → (rules.macos ≡ true) × Denies k w.tree looked.1) → MayFind rules k w.tree (finding_of rules w looked opened listed denies)
may_find rules k w looked opened listed denies looks opens lists denied = record {
  looks = λ names. one_loosely rules k w looked names looks;
  opens = λ names. one_loosely rules k w opened names opens;
  lists = λ names. one_loosely rules k w listed names lists;
  denied = λ path e.
      (let (on, same) = and_parts denies (same_names path looked.1) e in
      let (macos, may) = denied on in
      (macos, subst (λ z. Denies k w.tree z) (sym (names_same path looked.1 same)) may));
}

-- ---- one store that shows all of it

pub may_show : (rules : Rules) (k : Knowledge) (w : World) (f : Finding) (looked opened : Result Stood FsError) (listed : Result (List Member) FsError) → MayFind rules k w.tree f
    → MayShow rules k (Some w) (shown_where rules w f looked opened listed)
may_show rules k w f looked opened listed may = record {
  finding = f;
  may = may;
  looked = λ path clear. ap (λ b. cond b looked (looked_at rules w f path)) clear;
  opened = λ path clear. ap (λ b. cond b opened (opened_at rules w f path)) clear;
  listed = λ path clear. ap (λ b. cond b (listed_in w (f.lists path.names)) listed) clear;
}

found_here : (rules : Rules) (w : World) (at : Names × Names) (names : Names) → names ≡ at.0 → one_found rules w at names ≡ at.1
found_here rules w at names is = ap (λ b. cond b at.1 (resolved rules w.tree names)) (names_equal names at.0 is)

and_true : (b : Bool) → (b && true) ≡ b
and_true true = refl
and_true false = refl

denied_here : (denies : Bool) (end : Names) → (denies && same_names end end) ≡ denies
denied_here denies end = ap (λ b. denies && b) (names_equal end end refl) ∙ and_true denies

-- What is shown at the path that was looked at, at the one that was opened, and of the directory that was listed.
pub looked_here : (rules : Rules) (w : World) (at opens lists : Names × Names) (denies : Bool) (looked opened : Result Stood FsError) (listed : Result (List Member) FsError) (path : WebPath) → path.names ≡ at.0
    → (shown_where rules w (finding_of rules w at opens lists denies) looked opened listed).looked path ≡ cond (is_linked w.tree at.1) looked (looked_at rules w (found_at at.1 denies) path)
looked_here rules w at opens lists denies looked opened listed path is =
    ap (λ z. cond (is_linked w.tree z) looked (cond (is_virtual rules path) (Ok empty_file)
    (cond ((rules.macos && is_localized z) || (denies && same_names z at.1)) (Err fs.NotFound) (stood_at (has_slash rules.alone path) w (look w.tree z))))) (found_here rules w at path.names is)
    ∙ ap (λ b. cond (is_linked w.tree at.1) looked (cond (is_virtual rules path) (Ok empty_file)
    (cond ((rules.macos && is_localized at.1) || b) (Err fs.NotFound) (stood_at (has_slash rules.alone path) w (look w.tree at.1))))) (denied_here denies at.1)

pub opened_here : (rules : Rules) (w : World) (looks at lists : Names × Names) (denies : Bool) (looked opened : Result Stood FsError) (listed : Result (List Member) FsError) (path : WebPath) → path.names ≡ at.0
    → (shown_where rules w (finding_of rules w looks at lists denies) looked opened listed).opened path ≡ cond (is_linked w.tree at.1) opened (opened_at rules w (found_at at.1 false) path)
opened_here rules w looks at lists denies looked opened listed path is =
    ap (λ z. cond (is_linked w.tree z) opened (cond (is_forbidden rules path || has_slash rules.alone path) (Err fs.Forbidden) (stood_at false w (look w.tree z)))) (found_here rules w at path.names is)

pub listed_here : (rules : Rules) (w : World) (looks opens at : Names × Names) (denies : Bool) (looked opened : Result Stood FsError) (listed : Result (List Member) FsError) (path : WebPath) → path.names ≡ at.0
    → (shown_where rules w (finding_of rules w looks opens at denies) looked opened listed).listed path ≡ cond (is_clear w.tree at.1) (listed_in w at.1) listed
listed_here rules w looks opens at denies looked opened listed path is = ap (λ z. cond (is_clear w.tree z) (listed_in w z) listed) (found_here rules w at path.names is)
