-- `write_alf_data`: the four flags, then what they announce.
use mathlib.Core.Path.{refl}
use Rattle.aps.specs.AlfSyntax.{alf, alf_syntax, from_alf}
use Rattle.aps.proofs.WriterLaws.{wrote-exit, wrote-via, wrote-▷, wrote-▷-first}
use Rattle.aps.proofs.alf_write.write_alf_data.Goals as goal

pub returns-in_err-flag-clause-wrote : goal.returns-in_err-flag-clause-wrote
unfolding alf alf_syntax from_alf
returns-in_err-flag-clause-wrote c = wrote-exit c.from_residual.ensures.1 (wrote-via _ _ _ refl (wrote-▷-first _ c.in_err-flag.ensures.wrote))

pub returns-in_err-put_chroma_flag-clause-wrote : goal.returns-in_err-put_chroma_flag-clause-wrote
unfolding alf alf_syntax from_alf
returns-in_err-put_chroma_flag-clause-wrote c = wrote-exit c.from_residual-in_err-put_chroma_flag.ensures.1 (wrote-via _ _ _ refl (wrote-▷ _ c.in_ok-flag.ensures.wrote (wrote-▷-first _ c.in_err-put_chroma_flag.ensures.wrote)))

pub returns-in_err-put_chroma_flag-2-clause-wrote : goal.returns-in_err-put_chroma_flag-2-clause-wrote
unfolding alf alf_syntax from_alf
returns-in_err-put_chroma_flag-2-clause-wrote c = wrote-exit c.from_residual-in_err-put_chroma_flag-2.ensures.1 (wrote-via _ _ _ refl (wrote-▷ _ c.in_ok-flag.ensures.wrote (wrote-▷ _ c.in_ok-put_chroma_flag.ensures.wrote (wrote-▷-first _ c.in_err-put_chroma_flag-2.ensures.wrote))))

pub returns-in_err-put_chroma_flag-3-clause-wrote : goal.returns-in_err-put_chroma_flag-3-clause-wrote
unfolding alf alf_syntax from_alf
returns-in_err-put_chroma_flag-3-clause-wrote c = wrote-exit c.from_residual-in_err-put_chroma_flag-3.ensures.1 (wrote-via _ _ _ refl (wrote-▷ _ c.in_ok-flag.ensures.wrote (wrote-▷ _ c.in_ok-put_chroma_flag.ensures.wrote (wrote-▷ _ c.in_ok-put_chroma_flag-2.ensures.wrote (wrote-▷-first _ c.in_err-put_chroma_flag-3.ensures.wrote)))))

pub returns-in_err-put_luma-clause-wrote : goal.returns-in_err-put_luma-clause-wrote
unfolding alf alf_syntax from_alf
returns-in_err-put_luma-clause-wrote c = wrote-exit c.from_residual-in_err-put_luma.ensures.1 (wrote-via _ _ _ refl (wrote-▷ _ c.in_ok-flag.ensures.wrote (wrote-▷ _ c.in_ok-put_chroma_flag.ensures.wrote (wrote-▷ _ c.in_ok-put_chroma_flag-2.ensures.wrote (wrote-▷ _ c.in_ok-put_chroma_flag-3.ensures.wrote (wrote-▷-first _ c.in_err-put_luma.ensures.wrote))))))

pub returns-in_err-put_chroma-clause-wrote : goal.returns-in_err-put_chroma-clause-wrote
unfolding alf alf_syntax from_alf
returns-in_err-put_chroma-clause-wrote c = wrote-exit c.from_residual-in_err-put_chroma.ensures.1 (wrote-via _ _ _ refl (wrote-▷ _ c.in_ok-flag.ensures.wrote (wrote-▷ _ c.in_ok-put_chroma_flag.ensures.wrote (wrote-▷ _ c.in_ok-put_chroma_flag-2.ensures.wrote (wrote-▷ _ c.in_ok-put_chroma_flag-3.ensures.wrote (wrote-▷ _ c.in_ok-put_luma.ensures.wrote (wrote-▷-first _ c.in_err-put_chroma.ensures.wrote)))))))

pub returns-in_err-put_cc-clause-wrote : goal.returns-in_err-put_cc-clause-wrote
unfolding alf alf_syntax from_alf
returns-in_err-put_cc-clause-wrote c = wrote-exit c.from_residual-in_err-put_cc.ensures.1 (wrote-via _ _ _ refl (wrote-▷ _ c.in_ok-flag.ensures.wrote (wrote-▷ _ c.in_ok-put_chroma_flag.ensures.wrote (wrote-▷ _ c.in_ok-put_chroma_flag-2.ensures.wrote (wrote-▷ _ c.in_ok-put_chroma_flag-3.ensures.wrote (wrote-▷ _ c.in_ok-put_luma.ensures.wrote (wrote-▷ _ c.in_ok-put_chroma.ensures.wrote (wrote-▷-first _ c.in_err-put_cc.ensures.wrote))))))))

pub returns-clause-wrote : goal.returns-clause-wrote
unfolding alf alf_syntax from_alf
returns-clause-wrote c = wrote-via _ _ _ refl (wrote-▷ _ c.in_ok-flag.ensures.wrote (wrote-▷ _ c.in_ok-put_chroma_flag.ensures.wrote (wrote-▷ _ c.in_ok-put_chroma_flag-2.ensures.wrote (wrote-▷ _ c.in_ok-put_chroma_flag-3.ensures.wrote (wrote-▷ _ c.in_ok-put_luma.ensures.wrote (wrote-▷ _ c.in_ok-put_chroma.ensures.wrote (wrote-▷ _ c.in_ok-put_cc.ensures.wrote c.put_cc-2.ensures.wrote)))))))
