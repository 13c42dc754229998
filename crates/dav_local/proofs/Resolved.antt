-- Where a local store finds a path is where a loose walk ends, and in a tree without twins where the rules say.
use Rattle.std.proofs.Common.{◌≡◌, ◌||◌, Bool, true, false, not, List, [], Option, None, Some, Result, Ok, Err, IfOk, refl, sym, ap, subst, ◌∙◌, inl, inr, OnErr}
use Rattle.std.specs.Option.{is_some}
use Rattle.dav_core.specs.declared.error.FsError.{FsError}
use Rattle.dav_core.specs.declared.tree.Row.{Row}
use Rattle.dav_core.specs.Path.{Names}
use Rattle.dav_core.specs.Tree.{is_linked}
use Rattle.dav_core.specs.World.{IsWorld, World}
use Rattle.dav_core.proofs.UnchangedLemmas.{keeps_same}
use Rattle.dav_model.specs.Finding.{EndsLoosely, IsLoose, or_walk}
use Rattle.dav_model.specs.Folds.{fold_path}
use Rattle.dav_model.specs.Unset.{nothing_set}
use Rattle.dav_model.specs.Valid.{no_twins}
use Rattle.dav_model.proofs.LooseWalks.{found_exactly, walk_is_loose}
use Rattle.dav_model.proofs.PlainWalks.{plain_resolved}
use Rattle.dav_local.specs.Places.{Place}
use Rattle.dav_local.specs.Remembering.{SavesWork}
use Rattle.dav_local.specs.Resolving.{Leads, Resolves, StandsFor, found_at}
use Rattle.dav_local.specs.Walking.{EndsAt, Walks}
use Rattle.dav_local.specs.Ways.{Ways, is_known, resolved_by, rules_of}
use Rattle.dav_local.proofs.Dating.{made_same}
use Rattle.dav_local.proofs.Memories.{learns_none}

unfolded : (tree : List Row) (names : Names) → IsLoose false tree [] names names
unfolded tree names = subst (IsLoose false tree [] names) (plain_resolved nothing_set tree names) (walk_is_loose false tree [] names)

known_loosely : (alone : Option Names) (folds : Bool) (tree : List Row) (names : Names) → (is_some alone || not folds) ≡ true → EndsLoosely alone folds tree names (or_walk alone names)
known_loosely None true tree names e = cc
known_loosely None false tree names e = unfolded tree names
known_loosely (Some file) folds tree names e = refl

alone_names : (alone : Option Names) (at names : Names) → at ≡ or_walk alone names → alone ≡ None → fold_path at ≡ fold_path names
alone_names None at names e none = ap fold_path e
alone_names (Some file) at names e none = cc

-- A path that is found without the disk.
resolves_known : (p : Place) (names at : Names) → is_known p.ways ≡ true → at ≡ or_walk p.ways.alone names → Resolves p names (Ok at) p
resolves_known p names at known is = record {
  ways = refl;
  keeps = keeps_same p.disk;
  learns = learns_none p.memory;
  dots = refl;
  moment = refl;
  made = made_same p.moment p.memory p.memory refl refl;
  refused = tt;
  known = λ e. (refl, is);
  starved = λ e. tt;
  alike = λ none. alone_names p.ways.alone at names is none;
  told = λ w told. record { end = or_walk p.ways.alone names; loosely = known_loosely p.ways.alone p.ways.folds w.tree names known; here = λ clear. is };
}

pub resolves_plain : (p : Place) (names : Names) → p.ways.alone ≡ None → p.ways.folds ≡ false → Resolves p names (Ok names) p
resolves_plain p names alone folds =
    resolves_known p names names (ap (λ a. is_some a || not p.ways.folds) alone ∙ ap not folds) (sym (ap (λ a. or_walk a names) alone))

not_known : (ways : Ways) → ways.alone ≡ None → ways.folds ≡ true → is_known ways ≡ true → ⊥
not_known ways alone folds known = no_false (sym known ∙ ap (λ a. is_some a || not ways.folds) alone ∙ ap not folds)
  where
    no_false : true ≡ false → ⊥
    no_false e = cc

walk_leads : (ways : Ways) (tree : List Row) (names at : Names) → ways.alone ≡ None → ways.folds ≡ true → EndsAt tree names at → Leads ways tree names at
walk_leads ways tree names at alone folds (end, loose, here) = record {
  end = end;
  loosely = subst (λ a. EndsLoosely a ways.folds tree names end) (sym alone) (subst (λ b. IsLoose b tree [] names end) (sym folds) loose);
  here = here;
}

-- A path that is found by folding.
pub resolves_walked : (p q : Place) (names : Names) (r : Result Names FsError) → ((w : World) → p.disk.told ≡ Some w → IsWorld w) → p.ways.alone ≡ None → p.ways.folds ≡ true
    → Walks p names r q → Resolves p names r q
resolves_walked p q names (Err e) worlds alone folds walks = record {
  ways = walks.keeps.ways;
  keeps = walks.keeps.keeps;
  learns = walks.keeps.learns;
  dots = walks.keeps.dots;
  moment = walks.keeps.moment;
  made = walks.keeps.made;
  refused = walks.refused;
  known = λ e. absurd (not_known p.ways alone folds e);
  starved = λ e. absurd (not_known p.ways alone folds e);
  alike = tt;
  told = tt;
}
resolves_walked p q names (Ok at) worlds alone folds walks = record {
  ways = walks.keeps.ways;
  keeps = walks.keeps.keeps;
  learns = walks.keeps.learns;
  dots = walks.keeps.dots;
  moment = walks.keeps.moment;
  made = walks.keeps.made;
  refused = tt;
  known = λ e. absurd (not_known p.ways alone folds e);
  starved = λ e. tt;
  alike = λ none. walks.alike;
  told = λ w told. walk_leads p.ways w.tree names at alone folds (walks.told w told (worlds w told).tree);
}

-- In a tree without twins, where no link stands on the way, it is found where the rules say.
pub leads_exactly : (ways : Ways) (tree : List Row) (names at : Names) → (ways.folds ≡ true → no_twins tree ≡ true) → is_linked tree (resolved_by ways tree names) ≡ false → Leads ways tree names at
    → at ≡ resolved_by ways tree names
leads_exactly ways tree names at apart clear leads =
    let exactly : leads.end ≡ resolved_by ways tree names = found_exactly (rules_of ways) tree names leads.end apart leads.loosely in
    leads.here (ap (is_linked tree) exactly ∙ clear) ∙ exactly

resolves_exactly : (p q : Place) (names : Names) (r : Result Names FsError) → Resolves p names r q
    → IfOk r (λ at. (w : World) → p.disk.told ≡ Some w → (p.ways.folds ≡ true → no_twins w.tree ≡ true) → is_linked w.tree (resolved_by p.ways w.tree names) ≡ false → at ≡ resolved_by p.ways w.tree names)
resolves_exactly p q names (Ok at) resolves = λ w told apart clear. leads_exactly p.ways w.tree names at apart clear (resolves.told w told)
resolves_exactly p q names (Err e) resolves = tt

-- ---- a path that is found, as a value of its own

copy_starved : (p q : Place) (names at : Names) → Resolves p names (Ok at) q → Resolves p names (Err FsError.NoMemory) q
copy_starved p q names at resolves = record {
  ways = resolves.ways;
  keeps = resolves.keeps;
  learns = resolves.learns;
  dots = resolves.dots;
  moment = resolves.moment;
  made = resolves.made;
  refused = inr refl;
  known = λ e. ((resolves.known e).0, tt);
  starved = λ e. refl;
  alike = tt;
  told = tt;
}

owned : (p q : Place) (names : Names) (found : Result (Option Names) FsError) (r : Result Names FsError) → Resolves p names (found_at names found) q → StandsFor names found r → Resolves p names r q
owned p q names (Err e) r resolves is = subst (λ z. Resolves p names z q) (sym is) resolves
owned p q names (Ok (Some at)) r resolves is = subst (λ z. Resolves p names z q) (sym is) resolves
owned p q names (Ok None) r resolves (inl is) = subst (λ z. Resolves p names z q) (sym is) resolves
owned p q names (Ok None) r resolves (inr is) = subst (λ z. Resolves p names z q) (sym is) (copy_starved p q names names resolves)

pub owned_exactly : (p q : Place) (asked names : Names) (found : Result (Option Names) FsError) (r : Result Names FsError) → asked ≡ names → Resolves p asked (found_at asked found) q → StandsFor asked found r
    → IfOk r (λ at. (w : World) → p.disk.told ≡ Some w → (p.ways.folds ≡ true → no_twins w.tree ≡ true) → is_linked w.tree (resolved_by p.ways w.tree names) ≡ false → at ≡ resolved_by p.ways w.tree names)
owned_exactly p q asked names found r same resolves stands = resolves_exactly p q names r (subst (λ z. Resolves p z r q) same (owned p q asked found r resolves stands))

pub owned_saved : (p q : Place) (asked names : Names) (found : Result (Option Names) FsError) (r : Result Names FsError) → asked ≡ names
    → ((s : Result Names FsError) → StandsFor asked found s → SavesWork p asked s q) → StandsFor asked found r → SavesWork p names r q
owned_saved p q asked names found r same saved stands = subst (λ z. SavesWork p z r q) same (saved r stands)

pub found_stands : (names at : Names) (found : Option Names) → found ≡ Some at → StandsFor names (Ok found) (Ok at)
found_stands names at found is = rw is refl

pub copy_stands : (names : Names) (found : Option Names) (r : Result Names FsError) → found ≡ None → IfOk r (λ at. at ≡ names) → OnErr r (r ≡ Err FsError.NoMemory) → StandsFor names (Ok found) r
copy_stands names found (Ok at) none copy starved = rw none (inl (ap (λ z. Ok z) copy))
copy_stands names found (Err e) none copy starved = rw none (inr starved)
