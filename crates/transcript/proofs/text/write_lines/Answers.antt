use Rattle.edn.proofs.Fronts.{further}
use Rattle.transcript.specs.Segments.{lines_text}
use Rattle.transcript.proofs.Texts.{lines_left}
use Rattle.transcript.proofs.Profiles.{profiles_more, all_profiles}
use Rattle.transcript.proofs.text.write_lines.Goals as goal

pub loop-line-preserved : goal.loop-line-preserved
loop-line-preserved g c =
    let l = c.loop-line in
    let xs = c.args.lines.now in
    let left = lines_left xs l.line-index _ c.loop-line-test.true in
    let f = further _ _ _ (lines_text xs) l.invariant.done _ _ _ l.invariant.parts left l.invariant.sent
    c.in_ok-write_line.ensures.ok in
    record {
      in_profile = profiles_more xs l.line-index _ c.loop-line-test.true l.invariant.in_profile
          c.in_ok-write_line.ensures.in_profile;
      usable =
          c.in_ok-write_line.ensures.usable;
      done = f.0;
      parts = f.1;
      sent = f.2;
    }

pub returns-clause-in_profile : goal.returns-clause-in_profile
returns-clause-in_profile g c =
    all_profiles c.args.lines.now c.loop-line.line-index c.loop-line-test.false c.loop-line.invariant.in_profile
