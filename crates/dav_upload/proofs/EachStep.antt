-- What holds of each step of an upload, over a store whose calls do what the tree allows.
use Rattle.std.specs.Prelude.{ℕ, Bool}
use Rattle.dav_store.specs.View.{Listings, View}
use Rattle.dav_walks.specs.Pouring.{Writes}
use Rattle.dav_upload.specs.EachStep.{AreWhole, LeaveNoName, LeaveOthers, SweepsAreUnseen, SweepsBeforeAreUnseen, SweepsBeforeLeaveOthers, SweepsLeaveOthers}
use Rattle.dav_upload.specs.Takes.{LeadsPlainly, ReadsPlainly, TakesUploads}
use Rattle.dav_upload.proofs.Chains.{abort_gone, aborted, began, commit_gone, committed, pieced}
use Rattle.dav_upload.proofs.StepsLeave.{abort_left, begin_left, commit_left, piece_left}
use Rattle.dav_upload.proofs.Sweeps.{swept}
use Rattle.dav_upload.proofs.SweepsBefore.{before_left_hidden, before_unseen}
use Rattle.dav_upload.proofs.SweepsLeave.{sweep_left}

module _ {S C F : Type 0} (view : View S C F) (writes : Writes F) (c : C) (test : S → Bool) (takes_all : TakesUploads view writes c test) where
  module _ (shown : ℕ → Bool) where
    pub are_whole : AreWhole view writes c test shown
    are_whole = record {
      begins = λ s t v w target fields token r was now. began view writes c test takes_all shown s t v w was now target fields token r;
      pieces = pieced view writes c test takes_all shown;
      commits = λ u s t v w pieces fields r was now plain stands. committed view writes c test takes_all shown u s t v w pieces was now stands plain fields r;
      aborts = λ u s t v w pieces r was now plain stands. aborted view writes c test takes_all shown u s t v w pieces was now stands plain r;
    }

    pub leave_others : LeaveOthers view writes c test shown
    leave_others = record {
      begins = λ s t v w target fields token r was now plain clear. begin_left view writes c test takes_all shown s t v w was now target token plain clear fields r;
      pieces = piece_left view writes c test takes_all shown;
      commits = λ u s t v w pieces fields r was now plain stands beside clear. commit_left view writes c test takes_all shown u s t v w pieces was now stands plain beside clear fields r;
      aborts = λ u s t v w pieces r was now plain stands. abort_left view writes c test takes_all shown u s t v w pieces was now stands plain r;
    }

    pub leave_no_name : LeaveNoName view writes c test shown
    leave_no_name = record {
      commits = λ u s t v w pieces fields outcome was now plain stands. commit_gone view writes c test takes_all shown u s t v w pieces was now stands plain fields outcome;
      aborts = λ u s t v w pieces was now plain stands. abort_gone view writes c test takes_all shown u s t v w pieces was now stands plain;
    }

  module _ {L E : Type 0} (lists : Listings S C L E) (reads : ReadsPlainly view lists c test) where
    pub sweeps_unseen : SweepsAreUnseen view lists c test
    sweeps_unseen = swept view writes c test takes_all lists reads

    pub sweeps_leave : (shown : ℕ → Bool) → SweepsLeaveOthers view lists c test shown
    sweeps_leave = sweep_left view writes c test takes_all lists reads

  module _ {L E : Type 0} (lists : Listings S C L E) (leads : LeadsPlainly view lists c test) where
    pub sweeps_before_unseen : SweepsBeforeAreUnseen view lists c test
    sweeps_before_unseen = before_unseen view writes c test takes_all lists leads

    pub sweeps_before_leave : (shown : ℕ → Bool) → SweepsBeforeLeaveOthers view lists c test shown
    sweeps_before_leave = before_left_hidden view writes c test takes_all lists leads
