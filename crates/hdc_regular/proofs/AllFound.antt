-- By groups and components all is found.
use Rattle.hdc_regular.specs.Irregular.{sounds_of}
use Rattle.hdc_regular.specs.Laws.{order_of, FindsAll}
use Rattle.hdc_regular.proofs.Found.{found_breaks, broken_found}
use Rattle.hdc_regular.proofs.Theorem.{apart_before, apart}
use Rattle.hdc_regular.proofs.TextOrder.{text_ordered, text_within, text_complete}

pub all_is_found : FindsAll
all_is_found ps ts before cyclic hb hc cb ct rb rt gb gt ab at closed numbers numbering b =
    let sounds = sounds_of ps ts before cyclic in
    let nb = apart_before ps ts before cyclic hb hc cb ct rb rt in
    let nt = apart ps ts before cyclic hb hc cb ct rb rt in
    let ordered = text_ordered ps ts sounds cb ct rb rt nb nt gb gt ab at in
    let within = text_within ps ts sounds cb ct rb rt nb nt gb gt ab at in
    let complete = text_complete ps ts sounds cb ct rb rt nb nt gb gt ab at in (
      found_breaks ps ts before cyclic hb hc cb ct rb rt (order_of ps gb gt) ordered within complete closed numbers numbering b,
      broken_found ps ts before cyclic hb hc cb ct rb rt (order_of ps gb gt) ordered within complete closed numbers numbering b,
    )
