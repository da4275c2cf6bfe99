mod Checked
mod Places
