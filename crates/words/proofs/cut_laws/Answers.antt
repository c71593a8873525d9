-- Each law is proved in `Cuts`.
use Rattle.words.proofs.Cuts.{quotient_floors, cut_fits, cut_congruent, cut_only, cut_none, cut_fitting, cut_narrower, cut_wider, cut_sum}
use Rattle.words.proofs.cut_laws.Goals as goal

pub returns : goal.returns
returns c =
    record {
      floors = quotient_floors;
      fits = λ v d w some. cut_fits v d w;
      congruent = cut_congruent;
      only = cut_only;
      none = cut_none;
      same = cut_fitting;
      narrower = cut_narrower;
      wider = cut_wider;
      sum = cut_sum;
    }
