-- Answers as frames.
use Rattle.std.proofs.Common.{◌≡◌, [], ◌∷◌, Option, None, Some, Result, refl}
use Rattle.std.specs.Option.{option_map}
use Rattle.http_body.specs.declared.frame.Frame.{Frame}
use Rattle.futures.specs.Runs.{After}
use Rattle.std.specs.Prelude.{IfSome}
use Rattle.dav_body.specs.Frames.{MayGive, framed, Framed}

module _ {B X A E : Type 0} (gives : B → X → Option (Result A E) → B → X → Type 0) where
  pub frame_given : (b : B) (x : X) (told : Option (Result A E)) (c : B) (y : X) (answer : Option (Result (Frame A) E))
      → gives b x told c y → answer ≡ option_map framed told → Framed (MayGive gives b x) [] answer
  frame_given b x told c y answer gave is = ([], told, (c, y, gave), refl, is)

  after_frame : (b : B) (x : X) (told : Option (Result A E)) (c : B) (y : X) (frame : Result (Frame A) E)
      → gives b x told c y → Some frame ≡ option_map framed told → After (Framed (MayGive gives b x)) frame (Framed (MayGive gives c y))
  after_frame b x None c y frame gave is frames last more = cc
  after_frame b x (Some item) c y frame gave is frames last (items, end, came, all, ends) =
      (item ∷ items, end, (c, y, gave, came), (let same : frame ≡ framed item = cc in cc), ends)

  pub frames_after : (b : B) (x : X) (told : Option (Result A E)) (c : B) (y : X) (answer : Option (Result (Frame A) E))
      → gives b x told c y → answer ≡ option_map framed told
      → IfSome answer (λ frame. After (Framed (MayGive gives b x)) frame (Framed (MayGive gives c y)))
  frames_after b x told c y None gave is = tt
  frames_after b x told c y (Some frame) gave is = after_frame b x told c y frame gave is
