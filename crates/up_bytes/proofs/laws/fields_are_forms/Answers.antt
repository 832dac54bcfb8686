use Rattle.up_bytes.proofs.FieldForms.{byte_form, num_form, int_form, text_form, bytes_form}
use Rattle.up_bytes.proofs.laws.fields_are_forms.Goals as goal

pub returns : goal.returns
returns c = record { byte = byte_form; num = num_form; int = int_form; text = text_form; raw = bytes_form }
