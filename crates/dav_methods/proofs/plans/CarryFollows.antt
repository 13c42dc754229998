-- COPY and MOVE over a store that follows rules, also where each path names one file.
-- Headlines: `copy_follows` and `move_follows`.
use Rattle.std.proofs.Common.{◌≡◌, Bool, true, false, Option, None, Some, refl, sym, subst}
use Rattle.dav_core.specs.Path.{Names}
use Rattle.dav_store.specs.View.{Listings, View}
use Rattle.dav_model.specs.declared.asked.Asked.{Asked}
use Rattle.dav_model.specs.Plans.{Ask}
use Rattle.dav_model.specs.Rules.{Knowledge, Rules}
use Rattle.dav_model.specs.Valid.{IsRegular}
use Rattle.dav_methods.specs.Carrying.{CopyMoves}
use Rattle.dav_walks.specs.Follows.{Follows, Told}
use Rattle.dav_methods.specs.ByPlan.{CarriedIn}
use Rattle.dav_methods.specs.Lines.{Given}
use Rattle.dav_walks.specs.Pouring.{Writes}
use Rattle.dav_methods.specs.Table.{Next}
use Rattle.dav_methods.proofs.plans.CarryLooks.{Request, RightAfter, carried_right}
use Rattle.dav_methods.proofs.plans.CarryOverOneFile.{GoesOne, one_after, one_moves}
use Rattle.dav_methods.proofs.plans.CarryClears.{Carry, GoesRight, after_looks}
use Rattle.dav_methods.proofs.plans.CopyLastAct.{copies_right}
use Rattle.dav_methods.proofs.plans.CopyOverOneFile.{one_copies}
use Rattle.dav_methods.proofs.plans.MoveLastAct.{moves_right}

module _ {S C F L E : Type 0} (view : View S C F) (lists : Listings S C L E) (writes : Writes F) (c : C) where
  -- in both cases
  after : (asked : Asked) (x : Request view lists writes c asked) (moving : Bool) → asked.moving ≡ moving → ((y : Carry view lists writes c asked) → GoesRight view lists writes c asked y moving)
      → ((file : Names) (alone : x.rules.alone ≡ Some file) → GoesOne view lists writes c asked x file alone moving) → RightAfter view lists writes c asked x
  after asked x moving own many one = by x.rules.alone refl
    where
      by : (o : Option Names) → x.rules.alone ≡ o → RightAfter view lists writes c asked x
      by None alone =
          let y : Carry view lists writes c asked = record { rules = x.rules; alone = alone; knows = x.knows; ask = x.ask; s = x.s; given = x.given } in
          after_looks view lists writes c asked y (subst (GoesRight view lists writes c asked y) (sym own) (many y))
      by (Some file) alone = one_after view lists writes c asked x file alone (subst (GoesOne view lists writes c asked x file alone) (sym own) (one file alone))

  pub copy_follows : (rules : Rules) (k : Knowledge) (s : S) → Follows view lists writes c rules k s → (ask : Ask) (r : Given) (t : S)
      → Next (CopyMoves view lists c false rules.settings.prefix ask.path ask.fields) s r t
      → Told view lists writes c s t (λ v w. IsRegular rules k v → CarriedIn view lists writes c rules false ask s r t v w)
  copy_follows rules k s follows ask r t run =
      carried_right view lists writes c false rules
      (λ asked x same own. after asked x false own (λ y. copies_right view lists writes c asked y) (λ file alone. one_copies view lists writes c asked x file alone)) k s follows ask r t run

  pub move_follows : (rules : Rules) (k : Knowledge) (s : S) → Follows view lists writes c rules k s → (ask : Ask) (r : Given) (t : S)
      → Next (CopyMoves view lists c true rules.settings.prefix ask.path ask.fields) s r t
      → Told view lists writes c s t (λ v w. IsRegular rules k v → CarriedIn view lists writes c rules true ask s r t v w)
  move_follows rules k s follows ask r t run =
      carried_right view lists writes c true rules
      (λ asked x same own. after asked x true own (λ y. moves_right view lists writes c asked y) (λ file alone. one_moves view lists writes c asked x file alone)) k s follows ask r t run
