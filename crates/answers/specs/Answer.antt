-- What a call answers, as C and the console are handed it.
use Rattle.std.specs.Prelude.{get_or}
use Rattle.outcomes.specs.Outcome.{Outcome}
use Rattle.answers.specs.declared.PusmarkeAnswer.{PusmarkeAnswer}

-- An outcome in four numbers: 0 or the refusal's number, then the values in order, 0 where there is none. No outcome has more
-- than three values.
abbrev pub answer_of : Outcome → PusmarkeAnswer
answer_of o =
    record {
      refusal = o.number;
      first = get_or o.values 0 0;
      second = get_or o.values 1 0;
      third = get_or o.values 2 0;
    }
