-- What the calls of a local store that change what stands make of the told world, whatever its ways are.
use Rattle.std.proofs.Common.{◌≡◌, ◌≤◌, inr, ◌||◌, Bool, true, false, List, Result, Ok, Err, refl, sym, ap, subst, ◌∙◌, arith}
use Rattle.dav_io.specs.Told.{Both}
use Rattle.dav_io.proofs.ToldLemmas.{both_known, both_map, both_same, both_then}
use Rattle.dav_io.specs.declared.clock.Moment.{Moment}
use Rattle.dav_core.specs.declared.error.FsError.{FsError}
use Rattle.dav_core.specs.declared.handle.DiskError.{DiskError}
use Rattle.dav_core.specs.declared.tree.Row.{Row}
use Rattle.dav_core.specs.Allowed.{Allowed, copying, making_dir, taking_dir, taking_file}
use Rattle.dav_core.specs.DavPath.{WebPath}
use Rattle.dav_core.specs.Disk.{DiskState, IsCounted, OpenedOver, Opens, kind_opened}
use Rattle.dav_core.specs.Path.{Names}
use Rattle.dav_core.specs.Tree.{is_linked}
use Rattle.dav_core.specs.World.{SameBesidesOpens, World}
use Rattle.dav_core.specs.Writing.{Copies, Does, DoesIn, MayRefuseMake, MayRefuseTakeDir, MayRefuseTakeFile}
use Rattle.dav_core.proofs.UnchangedLemmas.{same_besides, same_besides_then}
use Rattle.dav_store.specs.Files.{Spoiled}
use Rattle.dav_store.specs.View.{Listings, View}
use Rattle.dav_model.specs.declared.settings.Settings.{Settings}
use Rattle.dav_model.specs.Finding.{has_slash, is_forbidden, resolved}
use Rattle.dav_model.specs.Plans.{put_options}
use Rattle.dav_model.specs.Rules.{Rules}
use Rattle.dav_walks.specs.Follows.{Calls, IfBothFound, IfFound, OpensBy, Told, UnlessShut}
use Rattle.dav_walks.specs.Pouring.{Writes}
use Rattle.dav_memory.specs.Memory.{MemoryState}
use Rattle.dav_local.specs.declared.entry.LocalFsDirEntry.{LocalFsDirEntry}
use Rattle.dav_local.specs.declared.file.LocalFsFile.{LocalFsFile}
use Rattle.dav_local.specs.declared.gathering.LocalFsReadDir.{LocalFsReadDir}
use Rattle.dav_local.specs.declared.ways.Ways.{Ways}
use Rattle.dav_local.specs.Calls.{Asks, Finds, Place, Unless}
use Rattle.dav_local.specs.Files.{done_by, filed}
use Rattle.dav_local.specs.Resolving.{Leads, Resolves}
use Rattle.dav_local.specs.Ways.{rules_of, rules_with}
use Rattle.dav_local.proofs.ByRules.{spoiled_by}
use Rattle.dav_local_laws.proofs.CallsBefore.{AllowsNumbered, calls_before, copying_numbered, copying_same, left_same, making_numbered, taking_dir_numbered, taking_file_numbered}
use Rattle.dav_local_laws.proofs.CallsDone.{calls_from, opened_as}
use Rattle.dav_local_laws.proofs.LocalLooks.{besides_then, found_there}
use Rattle.dav_local_laws.specs.LocalStore.{IsLocalStore, place}

module _ {S C : Type 0} (view : View S C LocalFsFile) (lists : Listings S C LocalFsReadDir LocalFsDirEntry) (writes : Writes LocalFsFile) (c : C) (ways : S → Ways) (memory : S → MemoryState) (moment : S → Moment)
    (local : IsLocalStore view lists writes ways memory moment) (settings : Settings) where
  abbrev at : S → Place
  at s = place view lists writes ways memory moment s

  abbrev rules : S → Rules
  rules m = rules_with settings (ways m)

  -- ---- what is refused by the path alone

  pub unless_told : {T : Type 0} (shut : Bool) (m n : S) (call : Place → Result T FsError → Place → Type 0) (r : Result T FsError) (P : World → World → Type 0) → Unless shut (at m) call r (at n)
      → (call (at m) r (at n) → Told view lists writes c m n P) → Told view lists writes c m n (λ v w. UnlessShut view lists writes c shut r v w (P v w))
  unless_told {T} true m n call r P run told =
      let (is, same) = run.forbidden refl in
      both_same (view.state m).told (view.state n).told (λ v w. UnlessShut view lists writes c {T = T} true r v w (P v w))
      (λ w. record { refused = λ e. (is, same_besides w); called = λ e. cc }) (ap (λ (x : Place). x.disk.told) same)
  unless_told {T} false m n call r P run told =
      both_map (view.state m).told (view.state n).told P (λ v w. UnlessShut view lists writes c {T = T} false r v w (P v w))
      (λ v w p. record { refused = λ e. cc; called = λ e. p }) (told (run.asked refl))

  -- ---- where a path is found

  -- what is told where a path was found
  pub led_to : (p q : Place) (names there : Names) → Resolves p names (Ok there) q → Both p.disk.told q.disk.told (λ v u. Leads p.ways v.tree names there × SameBesidesOpens v u)
  led_to p q names there resolves =
      both_known p.disk.told q.disk.told SameBesidesOpens (λ v u. Leads p.ways v.tree names there × SameBesidesOpens v u) (λ v u told same. (resolves.told v told, same)) resolves.keeps.world

  -- it wasn't found
  pub calls_spoiled : (m n : S) (allowed : Allowed) (e : FsError) (r : Result Unit FsError) (k q : DiskState) (v w : World) → (view.state m).faults ≤ k.faults → Spoiled {T = Names} k (Err e) q → r ≡ Err e → view.state n ≡ q
      → SameBesidesOpens v w → Calls view lists writes c allowed m r n v w
  calls_spoiled m n allowed e r k q v w le spoiled is ends same =
      subst (λ z. Calls view lists writes c allowed m z n v w) (sym is)
      (inr (subst (λ d. Spoiled {T = Unit} (view.state m) (Err e) d) (sym ends) (spoiled_by {U = Unit} (view.state m) k q e (Err e) le refl spoiled), left_same allowed v w same))

  -- ---- one path

  abbrev At : (List Row → Names → Allowed) → S → WebPath → Result Unit FsError → S → World → World → Type 0
  At allowed m path r n v w = IfFound view lists writes c (rules m) v path (Calls view lists writes c (allowed v.tree (resolved (rules m) v.tree path.names)) m r n v w)

  abbrev DoesAt : (DiskError → Type 0) → (List Row → Names → Allowed) → Names → DiskState → Result Unit DiskError → DiskState → Type 0
  DoesAt may allowed there s answer t = Does may (λ v w. is_linked v.tree there ≡ false → DoesIn false (allowed v.tree there) answer v w) s answer t

  called_at : (may : DiskError → Type 0) (allowed : List Row → Names → Allowed) → ((tree : List Row) (there : Names) → AllowsNumbered tree (allowed tree there)) → (m n : S) (path : WebPath) (r : Result Unit FsError)
      → Finds (at m) path.names (λ there. Asks (DoesAt may allowed there) done_by) r (at n) → Told view lists writes c m n (At allowed m path r n)
  called_at may allowed numbered m n path r (Err e, q, resolves, (is, ends)) =
      both_then (view.state m).told q.disk.told (view.state n).told SameBesidesOpens SameBesidesOpens (At allowed m path r n)
      (λ v u w first second apart free.
      calls_spoiled m n (allowed v.tree (resolved (rules m) v.tree path.names)) e r (view.state m) q.disk v w (omega arith) resolves.refused is (ap (λ (x : Place). x.disk) ends) (same_besides_then v u w first second))
      resolves.keeps.world (both_same q.disk.told (view.state n).told SameBesidesOpens same_besides (ap (λ (x : Place). x.disk.told) ends))
  called_at may allowed numbered m n path r (Ok there, q, resolves, (answer, t, does, is, ends)) =
      let same : t ≡ view.state n = sym (ap (λ (x : Place). x.disk) ends) in
      both_then (view.state m).told q.disk.told (view.state n).told _ (λ u w. is_linked u.tree there ≡ false → DoesIn false (allowed u.tree there) answer u w) (At allowed m path r n)
      (λ v u w p done apart free.
      let here = found_there settings (ways m) v path.names there apart free p.0 in
      let clear : is_linked u.tree there ≡ false = ap (λ (tree : List Row). is_linked tree there) p.1.tree ∙ (ap (is_linked v.tree) here ∙ free) in
      subst (λ z. Calls view lists writes c (allowed v.tree (resolved (rules m) v.tree path.names)) m z n v w) (sym is)
      (subst (λ (z : Names). Calls view lists writes c (allowed v.tree z) m (done_by answer) n v w) here
      (subst (λ (tree : List Row). Calls view lists writes c (allowed tree there) m (done_by answer) n v w) p.1.tree
      (calls_before view lists writes c (allowed u.tree there) m n (done_by answer) v u w (numbered u.tree there) p.1
      (calls_from view lists writes c false (allowed u.tree there) answer m n q.disk u w (done clear) resolves.keeps.counts (subst (λ (x : DiskState). IsCounted answer q.disk x) same does.asks.counted))))))
      (led_to (at m) q path.names there resolves)
      (subst (λ (x : DiskState). Both q.disk.told x.told (λ u w. is_linked u.tree there ≡ false → DoesIn false (allowed u.tree there) answer u w)) same does.told)

  pub make_told : (m n : S) (path : WebPath) (r : Result Unit FsError) → view.makes_dir m c path r n
      → Told view lists writes c m n (λ v w. UnlessShut view lists writes c (is_forbidden (rules m) path) r v w (At making_dir m path r n v w))
  make_told m n path r h =
      unless_told (is_forbidden (rules_of (ways m)) path) m n _ r (At making_dir m path r n) (local.makes_dir m n c path r h).0 (λ finds. called_at MayRefuseMake making_dir making_numbered m n path r finds)

  pub take_dir_told : (m n : S) (path : WebPath) (r : Result Unit FsError) → view.removes_dir m c path r n → Told view lists writes c m n (At taking_dir m path r n)
  take_dir_told m n path r h = called_at MayRefuseTakeDir taking_dir taking_dir_numbered m n path r (local.removes_dir m n c path r h).0

  pub take_file_told : (m n : S) (path : WebPath) (r : Result Unit FsError) → view.removes_file m c path r n
      → Told view lists writes c m n (λ v w. UnlessShut view lists writes c (is_forbidden (rules m) path || has_slash (rules m).alone path) r v w (At taking_file m path r n v w))
  take_file_told m n path r h =
      unless_told (is_forbidden (rules_of (ways m)) path || has_slash (ways m).alone path) m n _ r (At taking_file m path r n) (local.removes_file m n c path r h).0
      (λ finds. called_at MayRefuseTakeFile taking_file taking_file_numbered m n path r finds)

  -- ---- two paths

  abbrev Between : (World → Names → Names → Allowed) → S → WebPath → WebPath → Result Unit FsError → S → World → World → Type 0
  Between allowed m from to r n v w = IfBothFound view lists writes c (rules m) v from to
      (Calls view lists writes c (allowed v (resolved (rules m) v.tree from.names) (resolved (rules m) v.tree to.names)) m r n v w)

  -- Both were found: both places are those of the rules, and the second is looked for in a world that looks lie before.
  pub record LedToBoth (m : S) (from to : WebPath) (one other : Names) (v u : World) : Type 0 where
    pub same : SameBesidesOpens v u
    pub first : Leads (ways m) v.tree from.names one
    pub second : Leads (ways m) v.tree to.names other

  led_both : (m : S) (k q : Place) (from to : WebPath) (one other : Names) → Resolves (at m) from.names (Ok one) k → Resolves k to.names (Ok other) q
      → Both (view.state m).told q.disk.told (LedToBoth m from to one other)
  led_both m k q from to one other first second =
      both_then (view.state m).told k.disk.told q.disk.told _ _ (LedToBoth m from to one other)
      (λ v x u p s. record {
        same = same_besides_then v x u p.1 s.1;
        first = p.0;
        second = subst (λ (w : Ways). Leads w v.tree to.names other) first.ways (subst (λ (t : List Row). Leads k.ways t to.names other) p.1.tree s.0);
      })
      (led_to (at m) k from.names one first) (led_to k q to.names other second)

  -- one of the two wasn't found, or the call follows at both places
  pub found_both : (m n : S) (from to : WebPath) (r : Result Unit FsError) (call : Names → Names → Place → Result Unit FsError → Place → Type 0) (P : World → World → Type 0)
      → ((e : FsError) (k q : DiskState) (v w : World) → (view.state m).faults ≤ k.faults → Spoiled {T = Names} k (Err e) q → r ≡ Err e → view.state n ≡ q → SameBesidesOpens v w → P v w)
      → ((one other : Names) (q : Place) → Both (view.state m).told q.disk.told (LedToBoth m from to one other) → (view.state m).faults ≤ q.disk.faults → call one other q r (at n) → Told view lists writes c m n P)
      → Finds (at m) from.names (λ one k. Finds k to.names (call one)) r (at n) → Told view lists writes c m n P
  found_both m n from to r call P lost there (Err e, k, first, (is, ends)) =
      both_then (view.state m).told k.disk.told (view.state n).told SameBesidesOpens SameBesidesOpens P
      (λ v u w one two. lost e (view.state m) k.disk v w (omega arith) first.refused is (ap (λ (x : Place). x.disk) ends) (same_besides_then v u w one two))
      first.keeps.world (both_same k.disk.told (view.state n).told SameBesidesOpens same_besides (ap (λ (x : Place). x.disk.told) ends))
  found_both m n from to r call P lost there (Ok one, k, first, (Err e, q, second, (is, ends))) =
      both_then (view.state m).told q.disk.told (view.state n).told SameBesidesOpens SameBesidesOpens P
      (λ v u w one two. lost e k.disk q.disk v w first.keeps.counts second.refused is (ap (λ (x : Place). x.disk) ends) (same_besides_then v u w one two))
      (besides_then (view.state m) k.disk q.disk first.keeps.world second.keeps.world)
      (both_same q.disk.told (view.state n).told SameBesidesOpens same_besides (ap (λ (x : Place). x.disk.told) ends))
  found_both m n from to r call P lost there (Ok one, k, first, (Ok other, q, second, after)) =
      let le : (view.state m).faults ≤ k.disk.faults = first.keeps.counts in
      let more : k.disk.faults ≤ q.disk.faults = second.keeps.counts in
      there one other q (led_both m k q from to one other first second) (omega (arith, le, more)) after

  copied_at : (m n : S) (from to : WebPath) (r : Result Unit FsError) (one other : Names) (q : Place) → Both (view.state m).told q.disk.told (LedToBoth m from to one other) → (view.state m).faults ≤ q.disk.faults
      → Asks (λ s answer t. Copies s one other answer t) done_by q r (at n) → Told view lists writes c m n (Between copying m from to r n)
  copied_at m n from to r one other q led le (answer, t, does, is, ends) =
      let same : t ≡ view.state n = sym (ap (λ (x : Place). x.disk) ends) in
      both_then (view.state m).told q.disk.told (view.state n).told (LedToBoth m from to one other)
      (λ u w. is_linked u.tree one ≡ false → is_linked u.tree other ≡ false → DoesIn true (copying u one other) answer u w) (Between copying m from to r n)
      (λ v u w p done apart free beyond.
      let here = found_there settings (ways m) v from.names one apart free p.first in
      let into = found_there settings (ways m) v to.names other apart beyond p.second in
      let clear : is_linked u.tree one ≡ false = ap (λ (tree : List Row). is_linked tree one) p.same.tree ∙ (ap (is_linked v.tree) here ∙ free) in
      let open_to : is_linked u.tree other ≡ false = ap (λ (tree : List Row). is_linked tree other) p.same.tree ∙ (ap (is_linked v.tree) into ∙ beyond) in
      subst (λ z. Calls view lists writes c (copying v (resolved (rules m) v.tree from.names) (resolved (rules m) v.tree to.names)) m z n v w) (sym is)
      (subst (λ (z : Names). Calls view lists writes c (copying v z (resolved (rules m) v.tree to.names)) m (done_by answer) n v w) here
      (subst (λ (z : Names). Calls view lists writes c (copying v one z) m (done_by answer) n v w) into
      (subst (λ a. Calls view lists writes c a m (done_by answer) n v w) (copying_same v u one other p.same)
      (calls_before view lists writes c (copying u one other) m n (done_by answer) v u w (copying_numbered u one other) p.same
      (calls_from view lists writes c true (copying u one other) answer m n q.disk u w (done clear open_to) le (subst (λ (x : DiskState). IsCounted answer q.disk x) same does.asks.counted)))))))
      led
      (subst (λ (x : DiskState). Both q.disk.told x.told (λ u w. is_linked u.tree one ≡ false → is_linked u.tree other ≡ false → DoesIn true (copying u one other) answer u w)) same does.told)

  pub copy_told : (m n : S) (from to : WebPath) (r : Result Unit FsError) → view.copies m c from to r n
      → Told view lists writes c m n (λ v w. UnlessShut view lists writes c (is_forbidden (rules m) from || is_forbidden (rules m) to) r v w (Between copying m from to r n v w))
  copy_told m n from to r h =
      unless_told (is_forbidden (rules_of (ways m)) from || is_forbidden (rules_of (ways m)) to) m n _ r (Between copying m from to r n) (local.copies m n c from to r h).0
      (found_both m n from to r (λ one other. Asks (λ s answer t. Copies s one other answer t) done_by) (Between copying m from to r n)
      (λ e k q v w le spoiled is ends same apart free beyond. calls_spoiled m n (copying v (resolved (rules m) v.tree from.names) (resolved (rules m) v.tree to.names)) e r k q v w le spoiled is ends same)
      (λ one other q led le asks. copied_at m n from to r one other q led le asks))

  -- ---- opening

  abbrev OpensAt : S → WebPath → Result LocalFsFile FsError → S → World → World → Type 0
  OpensAt m path r n v w = IfFound view lists writes c (rules m) v path (OpensBy view lists writes c (rules m) path m r n v w)

  opens_lost : (m n : S) (path : WebPath) (e : FsError) (r : Result LocalFsFile FsError) (q : DiskState) (v w : World) → Spoiled {T = Names} (view.state m) (Err e) q → r ≡ Err e → view.state n ≡ q → SameBesidesOpens v w
      → OpensBy view lists writes c (rules m) path m r n v w
  opens_lost m n path e r q v w spoiled is ends same =
      subst (λ z. OpensBy view lists writes c (rules m) path m z n v w) (sym is)
      (same, inr (subst (λ d. Spoiled {T = LocalFsFile} (view.state m) (Err e) d) (sym ends) (spoiled_by {U = LocalFsFile} (view.state m) (view.state m) q e (Err e) (omega arith) refl spoiled)))

  opened_at : (m n : S) (path : WebPath) (r : Result LocalFsFile FsError) → Finds (at m) path.names (λ there. Asks (λ s answer t. Opens s there put_options answer t) filed) r (at n)
      → Told view lists writes c m n (OpensAt m path r n)
  opened_at m n path r (Err e, q, resolves, (is, ends)) =
      both_then (view.state m).told q.disk.told (view.state n).told SameBesidesOpens SameBesidesOpens (OpensAt m path r n)
      (λ v u w first second apart free. opens_lost m n path e r q.disk v w resolves.refused is (ap (λ (x : Place). x.disk) ends) (same_besides_then v u w first second))
      resolves.keeps.world (both_same q.disk.told (view.state n).told SameBesidesOpens same_besides (ap (λ (x : Place). x.disk.told) ends))
  opened_at m n path r (Ok there, q, resolves, (answer, t, opens, is, ends)) =
      let same : view.state n ≡ t = ap (λ (x : Place). x.disk) ends in
      let opens_so : Opens q.disk there put_options answer (view.state n) = subst (λ x. Opens q.disk there put_options answer x) (sym same) opens in
      both_then (view.state m).told q.disk.told (view.state n).told _ (OpenedOver there put_options answer (kind_opened answer (view.state n))) (OpensAt m path r n)
      (λ v u w p over apart free.
      let here = found_there settings (ways m) v path.names there apart free p.0 in
      let clear : is_linked u.tree there ≡ false = ap (λ (tree : List Row). is_linked tree there) p.1.tree ∙ (ap (is_linked v.tree) here ∙ free) in
      rw is (opened_as view lists writes c (λ f. record { handle = f }) (λ f. local.handle (record { handle = f })) (rules m) path there answer m n q.disk v u w here p.1 over resolves.keeps.counts
      opens_so.asks.counted clear))
      (led_to (at m) q path.names there resolves) opens_so.told

  pub open_told : (m n : S) (path : WebPath) (r : Result LocalFsFile FsError) → view.opens m c path put_options r n
      → Told view lists writes c m n (λ v w. UnlessShut view lists writes c (is_forbidden (rules m) path || has_slash (rules m).alone path) r v w (OpensAt m path r n v w))
  open_told m n path r h =
      unless_told (is_forbidden (rules_of (ways m)) path || has_slash (ways m).alone path) m n _ r (OpensAt m path r n) (local.opens m n c path put_options r h).0 (λ finds. opened_at m n path r finds)
