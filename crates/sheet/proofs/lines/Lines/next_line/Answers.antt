use Rattle.std.proofs.Common.{◌-◌, length, drop, sym, ap, ◌∙◌, arith, rules, length-drop}
use Rattle.std.proofs.lemmas.List.{take_all}
use Rattle.std.proofs.lemmas.Result.{err_from_is_err_and}
use Rattle.sheet.proofs.Cuts.{Cut, no_line, line_is}
use Rattle.sheet.specs.Split.{split}
use Rattle.sheet.proofs.lines.Lines.next_line.Goals as goal
use Rattle.sheet.proofs.lines.Lines.next_line.Goals.{After-cut}

found : (c : After-cut) → Cut c.args.self.now.sheet.now c.args.self.now.at.byte c.cut.result.0.now c.cut.result.1.now
found c =
    let all = take_all (length c.args.self.now.sheet.now - c.args.self.now.at.byte) (drop c.args.self.now.at.byte c.args.self.now.sheet.now) (simp length-drop (omega arith)) in
    record { whole = sym all ∙ c.cut.ensures.whole; pieces = ap (split 10) (sym all) ∙ c.cut.ensures.pieces }

pub returns-then-is_empty : goal.returns-then-is_empty
returns-then-is_empty c = record { fails = λ ts due. no_line (found (goal.at.returns-then-is_empty c).After-cut) _ ts due (search rules) }

pub returns-in_err-open_line : goal.returns-in_err-open_line
returns-in_err-open_line c =
    let p = err_from_is_err_and c.from_residual.result c.from_residual.ensures.1 in
    rw (p.1, p.2) (record { fails = λ ts due. line_is (found (goal.at.returns-in_err-open_line c).After-cut) _ ts due (search rules) _ c.in_err-open_line.ensures })

pub returns : goal.returns
returns c =
    let l = c.in_ok-open_line.ensures in
    record {
      read = λ ts due. rw l.place (line_is (found (goal.at.returns c).After-cut) _ ts due (search rules) _ l.opens);
      sheet = search rules;
      onward = search rules;
    }
