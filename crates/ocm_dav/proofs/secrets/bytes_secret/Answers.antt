use Rattle.ocm_dav.proofs.SecretTexts.{secret_of_text, secret_of_no_text, same_answer}
use Rattle.ocm_dav.proofs.secrets.bytes_secret.Goals as goal

pub returns-in-Ok : goal.returns-in-Ok
returns-in-Ok c =
    same_answer c.text_secret.result _ _ (secret_of_text c.args.bytes.now c.in-Ok.text.now c.in-Ok.ensures.cases.0 c.in-Ok.ensures.cases.1) c.text_secret.ensures

pub returns-in-Err : goal.returns-in-Err
returns-in-Err c = secret_of_no_text c.args.bytes.now c.in-Err.ensures.cases.0
