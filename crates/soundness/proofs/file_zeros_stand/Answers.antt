-- File r + 1 has record r.
use Rattle.std.proofs.Common.{rules, arith, ◌+◌, ◌-◌, ◌*◌, ◌∙◌, ◌≡◌, suc}
use Rattle.records.specs.Numbers.{zeros}
use Rattle.records.specs.RowLaws.{every_cong}
use Rattle.meaning.specs.Tables.{file_count}
use Rattle.soundness.proofs.file_zeros_stand.Goals as goal

pub returns : goal.returns
returns c =
    let records = c.args.file_records.now in
    c.every_file.ensures (λ n. zeros records (8 * (n - 1) + 2) 2) (λ f b l h post. search rules)
    ∙ every_cong (file_count records) (λ r. zeros records (8 * (suc r - 1) + 2) 2) (λ r. zeros records (8 * r + 2) 2)
    (λ r h. let e : suc r - 1 ≡ r = omega arith in rw e)
