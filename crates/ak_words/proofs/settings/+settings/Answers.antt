use Rattle.std.proofs.Common.{◌+◌, subst, sym}
use Rattle.ak_words.specs.Words.{Continues, IsSettingsFault}
use Rattle.ak_words.proofs.Places.{list_one, list_two, fault_no_value, fault_bad_value, fault_later}
use Rattle.ak_words.proofs.settings.+settings.Goals as goal

pub returns-in_default-number-clause-fault : goal.returns-in_default-number-clause-fault
returns-in_default-number-clause-fault n c =
    let e = list_two c.args.words.now c.name-item-2.result c.value-item.result c.in-len2-up.len_at_least c.name-item-2.is c.value-item.is
    in subst (λ ws. IsSettingsFault c.args.given ws 1) (sym e)
    (fault_bad_value c.args.given c.name-item-2.result c.value-item.result _ c.in-Some-free_setting.setting
    c.in-Some-free_setting.ensures.0 c.in-Some-free_setting.ensures.1 c.in_default-number.ensures)

pub returns-in-Ok-clause-settings : goal.returns-in-Ok-clause-settings
returns-in-Ok-clause-settings n c =
    let e = list_two c.args.words.now c.name-item-2.result c.value-item.result c.in-len2-up.len_at_least c.name-item-2.is c.value-item.is
    in subst (λ ws. Continues c.args.given ws c.in-Ok.config) (sym e) (
      c.in-Some-free_setting.setting,
      c.in-Some-number.number,
      record { named = c.in-Some-free_setting.ensures.0; free = c.in-Some-free_setting.ensures.1; number = c.in-Some-number.ensures },
      (rw c.with.ensures at c.in-Ok.ensures.settings),
    )

pub returns-in-Err-clause-fault : goal.returns-in-Err-clause-fault
returns-in-Err-clause-fault n c =
    let e = list_two c.args.words.now c.name-item-2.result c.value-item.result c.in-len2-up.len_at_least c.name-item-2.is c.value-item.is
    in subst (λ ws. IsSettingsFault c.args.given ws (c.in-Err.place + 2)) (sym e)
    (fault_later c.args.given c.name-item-2.result c.value-item.result _ c.in-Some-free_setting.setting c.in-Some-number.number c.in-Err.place
    (record { named = c.in-Some-free_setting.ensures.0; free = c.in-Some-free_setting.ensures.1; number = c.in-Some-number.ensures })
    (rw c.with.ensures at c.in-Err.ensures.fault))

pub returns-in-Some-clause-fault : goal.returns-in-Some-clause-fault
returns-in-Some-clause-fault n c =
    let e = list_one c.args.words.now c.name-item.result c.in-len1.len_at_least c.in-len1.len_below c.name-item.is
    in subst (λ ws. IsSettingsFault c.args.given ws 1) (sym e)
    (fault_no_value c.args.given c.name-item.result c.in-Some.field-0 c.in-Some.ensures.0 c.in-Some.ensures.1)
