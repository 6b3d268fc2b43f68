use Rattle.edn_reader.proofs.Progress.{one_reading_of}
use Rattle.reading.proofs.OneMeaning.{one_history}
use Rattle.reading.proofs.by_workers.history_of_text_by_workers.Goals as goal

pub returns-in-Some : goal.returns-in-Some
returns-in-Some g c =
    let text = c.args.text.now in
    let d = c.in-Some.ensures.denotes in
    record {
      denotes = d;
      only = λ fs k. one_history text d.forms c.in-Some.history fs
          (λ ds s. one_reading_of ds d.forms text s d.spelled) d.denoted k;
      short = c.in-Some.ensures.short;
      stop = tt;
      accepts = tt;
    }
