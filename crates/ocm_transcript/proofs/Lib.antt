pub mod Hrefs
